-- `rows::layer::faulty_layer` meets its contract: row after row. Assumes nothing.
use mathlib.Core.Path.{◌≡◌, refl, subst}
use Prim.Native.Nat.{◌+◌}
use native.Mathlib.Omega.{arith}
use lib.ListN.{length, take}
use lib.Seq.{length-take-le}
use Rattle.mesh.specs.Fill.{Filled}
use Rattle.mesh.proofs.Fill.{fill_none, fill_more}
use Rattle.maps.specs.Shelf.{map_on}
use Rattle.rows.specs.Box.{faulty_row}
use Rattle.rows.proofs.Faulty.{front_filled}
use Rattle.rows.proofs.layer.faulty_layer.Goals as goal

pub loop-b-init : goal.loop-b-init
loop-b-init c = fill_none _ _ _

pub loop-b-preserved : goal.loop-b-preserved
loop-b-preserved c = fill_more _ _ _ _ _ _ _ c.loop-b.invariant (omega arith) (λ i h q. omega arith) refl c.faulty_row.ensures

pub returns : goal.returns
returns c =
    let a = c.args in
    let l = c.loop-b in
    let n : length (take (a.g.y.steps + 1) a.rows.now) ≡ a.g.y.steps + 1 = length-take-le _ _ (omega arith) in
    let e : l.b ≡ a.g.y.steps + 1 = omega arith in
    front_filled _ _ _ _ (omega arith)
    (subst (Filled (λ i. i) (λ i. faulty_row (map_on a.shelf.now) a.g i a.c) (take (a.g.y.steps + 1) a.rows.now) l.row-items) e l.invariant)
