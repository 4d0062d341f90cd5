-- `components::entry::grid_of` meets its contract: the front of what the marks are written to is laid into the grid. Assumes nothing.
use mathlib.Core.Path.{◌≡◌, sym, ap, ◌∙◌}
use mathlib.Core.List.{List}
use Prim.Native.Nat.{ℕ}
use lib.ListN.{length, get_or, take, drop}
use lib.Seq.{take_at}
use Rattle.mesh.specs.Mesh.{nodes}
use Rattle.mesh.specs.Cells.{map_of}
use Rattle.rules.specs.Marks.{marks_of}
use Rattle.mesh.specs.declared.Sizes.{Sizes}
use Rattle.rules.proofs.Marks.{marks_length}
use Rattle.rules.specs.Entry.{marks_answer, marks_written, marks_out}
use Rattle.rules.proofs.Entry.{Granted, marks_granted}
use Rattle.grids.specs.Grid.{grid_of}
use Rattle.grids.proofs.Layouts.{blank_long, of_grid}
use Rattle.components.proofs.entry.grid_of.Goals as goal
use Rattle.components.proofs.entry.grid_of.Goals.{After-marks, After-nodes-n, In_ok-marks}
use Rattle.mesh.specs.Answers.{accepted}

-- the marks stand at the front of what is written
front : (S : Sizes) (cells : List ℕ) (o : ℕ) (out : List ℕ) → marks_answer S cells o (length out) ≡ accepted
    → take (nodes S) (marks_out S cells o out) ≡ marks_of (map_of S cells) o
unfolding marks_written
front S cells o out e = rw e (take_at (marks_of (map_of S cells) o) (drop (nodes S) out) (nodes S) (marks_length (map_of S cells) o))

-- the answer is that of the marks, for a room that suffices
answered : (c : After-marks) → let a = c.args in
    c.marks.result ≡ marks_answer a.s a.cells.now a.orientation 4096
answered c =
    let a = c.args in
    c.marks.ensures.value ∙ ap (marks_answer a.s a.cells.now a.orientation) (blank_long 4096 _ c.blank_marks-marked.ensures)

-- past the refusals
passed : (c : In_ok-marks) → let a = c.args in
    Granted a.s a.cells.now a.orientation 4096
passed c =
    let a = c.args in
    let told = c.marks.ensures.value ∙ ap (marks_answer a.s a.cells.now a.orientation) (blank_long 4096 _ c.blank_marks-marked.ensures) in
    marks_granted a.s a.cells.now a.orientation 4096 (sym told ∙ c.in_ok-marks.was)

-- what is lent to `lay` is the marks
laid : (c : After-nodes-n) →
    let m = c in
    let a = m.args in
    take c.nodes-n.result m.marks.new.out ≡ marks_of (map_of a.s a.cells.now) a.orientation
laid c =
    let m = c in
    let a = m.args in
    let out = m.blank_marks-marked.result in
    rw (c.nodes-n.ensures.0, m.marks.ensures.out_after)
    (front a.s a.cells.now a.orientation out (sym m.marks.ensures.value ∙ c.in_ok-marks.was))

pub nodes-n-requires : goal.nodes-n-requires
nodes-n-requires c = (passed (goal.at.nodes-n-requires c).In_ok-marks).map.sized

pub slice_bounds-lay-end : goal.slice_bounds-lay-end
slice_bounds-lay-end c =
    let a = c.args in
    c.nodes-n.ensures.0 ∙ sym (ap length (laid (goal.at.slice_bounds-lay-end c).After-nodes-n) ∙ marks_length (map_of a.s a.cells.now) a.orientation)

pub lay-requires : goal.lay-requires
lay-requires c = (
  (passed (goal.at.lay-requires c).In_ok-marks).map.sized,
  ap length (laid (goal.at.lay-requires c).After-nodes-n) ∙ marks_length (map_of c.args.s c.args.cells.now) c.args.orientation,
  c.requires,
)

pub returns : goal.returns
returns c =
    let a = c.args in
    let told = c.in_ok-marks.was in (
      sym told ∙ answered (goal.at.returns c).After-marks,
      (λ j. ap (λ (g : List ℕ). get_or g j 0) (c.lay.ensures ∙ ap (grid_of a.s) (laid (goal.at.returns c).After-nodes-n))
          ∙ of_grid a.s (marks_of (map_of a.s a.cells.now) a.orientation) (passed (goal.at.returns c).In_ok-marks).map.sized j),
    )
