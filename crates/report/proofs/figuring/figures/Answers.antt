-- `report::figuring::figures` meets its contract: the bytes in front are the marks of the map. Assumes nothing.
use mathlib.Core.Path.{◌≡◌, sym, ap, ◌∙◌}
use mathlib.Core.List.{List}
use Prim.Native.Nat.{ℕ}
use lib.ListN.{length, take, replicate}
use Rattle.std.proofs.lemmas.List.{length-replicate}
use Rattle.mesh.specs.Mesh.{nodes}
use Rattle.rules.specs.Marks.{marks_of}
use Rattle.maps.specs.Shelf.{map_on}
use Rattle.maps.proofs.Shelves.{in_order}
use Rattle.rules.proofs.Marks.{marks_length}
use Rattle.counts.specs.Counts.{with_bit}
use Rattle.counts.proofs.Counted.{useless_counted, cant_reach_counted}
use Rattle.report.proofs.Granted.{marks_front}
use Rattle.report.proofs.figuring.figures.Goals as goal
use Rattle.report.proofs.figuring.figures.Goals.{After-nodes-n}

-- the bytes in front, when their count is known
in_front : (c : After-nodes-n) →
    let a = c.args in
    take c.nodes-n.result c.marks.new.out ≡ marks_of (map_on a.shelf.now) a.o
in_front c =
    let s = c.args.shelf.now in
    ap (λ (n : ℕ). take n c.marks.new.out) c.nodes-n.ensures.0
    ∙ ap (take (nodes s.sizes)) c.marks.ensures.out_after
    ∙ marks_front s.sizes s.cells.now (in_order s) c.args.o c.requires (replicate 4096 0) (length-replicate {A = ℕ} 4096 0)

as_many : (c : After-nodes-n) → c.nodes-n.result ≡ length (take c.nodes-n.result c.marks.new.out)
as_many c =
    let a = c.args in
    c.nodes-n.ensures.0 ∙ sym (ap length (in_front c) ∙ marks_length (map_on a.shelf.now) a.o)

pub nodes-n-requires : goal.nodes-n-requires
nodes-n-requires c = c.args.shelf.now.sized

pub slice_bounds-count_marked-end : goal.slice_bounds-count_marked-end
slice_bounds-count_marked-end c = as_many (goal.at.slice_bounds-count_marked-end c).After-nodes-n

pub slice_bounds-count_marked-end-2 : goal.slice_bounds-count_marked-end-2
slice_bounds-count_marked-end-2 c = as_many (goal.at.slice_bounds-count_marked-end-2 c).After-nodes-n

pub returns : goal.returns
returns c =
    let a = c.args in
    let m = map_on a.shelf.now in
    rw (
      c.count_marked-useless.ensures ∙ ap (λ (l : List ℕ). with_bit l 2) (in_front (goal.at.returns c).After-nodes-n) ∙ useless_counted m a.o,
      c.count_marked-cannot_reach.ensures ∙ ap (λ (l : List ℕ). with_bit l 4) (in_front (goal.at.returns c).After-nodes-n) ∙ cant_reach_counted m a.o,
      c.count_components-components.ensures,
    )
