-- `rows::layer::add_layer` meets its contract: row after row. Assumes nothing.
use mathlib.Core.Path.{◌≡◌}
use Prim.Native.Nat.{◌+◌, ◌<◌, ◌≤◌}
use native.Mathlib.Omega.{arith}
use lib.ListN.{length, take}
use lib.Seq.{length-take-le}
use Rattle.std.proofs.lemmas.List.{get_or-take}
use Rattle.mesh.specs.Mesh.{Inside}
use Rattle.rows.specs.Box.{largest, far}
use Rattle.rows.proofs.Box.{far_in}
use Rattle.rows.proofs.Adding.{turn_span, turn_room, added_more}
use Rattle.rows.proofs.layer.add_layer.Goals.{In-loop-b}
use Rattle.rows.proofs.layer.add_layer.Goals as goal

-- the row of a turn is one of the box
here : (c : In-loop-b) → c.loop-b.b ≤ c.args.g.y.steps
here c =
    let a = c.args in
    let e : length (take (a.g.y.steps + 1) a.rows.now) ≡ a.g.y.steps + 1 = length-take-le _ _ (omega arith) in
    omega arith

pub add_row-requires : goal.add_row-requires
add_row-requires c =
    let a = c.args in
    let l = c.loop-b in
    let hb = here (goal.at.add_row-requires c).In-loop-b in
    let small : Inside largest (far a.g) = far_in a.s a.g c.requires.0.sized c.requires.0.held in
    rw c.node.ensures.0 (
      omega arith,
      turn_span a.s a.g a.c c.requires.2 l.b hb a.out.now c.requires.0 a.v a.rows.now l.out l.invariant,
      turn_room a.s a.g a.c c.requires.2 l.b hb a.out.now c.requires.0 a.v a.rows.now l.out l.invariant c.requires.3,
    )

pub loop-b-preserved : goal.loop-b-preserved
loop-b-preserved c =
    let a = c.args in
    let l = c.loop-b in
    let hb = here (goal.at.loop-b-preserved c).In-loop-b in
    let hn : l.b < a.g.y.steps + 1 = omega arith in
    let e = c.node.ensures.0 in
    added_more a.s a.g a.c c.requires.2 l.b hb a.out.now c.requires.0 a.v a.rows.now l.out l.invariant _
    (rw (e, get_or-take (a.g.y.steps + 1) a.rows.now l.b 0 hn) at c.add_row.ensures)
