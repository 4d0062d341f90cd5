-- `rows::layer::faulty_row` meets its contract. Assumes nothing.
use mathlib.Core.Path.{ap, ◌∙◌}
use Prim.Native.Nat.{◌+◌}
use native.Mathlib.Omega.{arith}
use Rattle.mesh.specs.Mesh.{Inside}
use Rattle.maps.specs.Shelf.{map_on}
use Rattle.rows.specs.Row.{packed, says}
use Rattle.rows.specs.Box.{largest, far}
use Rattle.rows.proofs.Box.{far_in, row_span}
use Rattle.rows.proofs.Faulty.{on_shelf, row_faulty}
use Rattle.rows.proofs.layer.faulty_row.Goals as goal

pub pack_row-requires : goal.pack_row-requires
pack_row-requires c =
    let a = c.args in
    let r = c.requires in
    let t : Inside largest (far a.g) = far_in _ a.g a.shelf.now.sized r.0 in (
      omega arith,
      rw c.node.ensures.0 (row_span (map_on a.shelf.now) a.g (on_shelf a.shelf.now a.g r.0) a.b a.c r.1 r.2),
      omega arith,
      omega arith,
    )

pub returns : goal.returns
returns c =
    let a = c.args in
    let r = c.requires in
    c.pack_row.ensures
    ∙ ap (λ i. packed (says a.shelf.now.cells.now 0 a.g.x.down i) (a.g.x.steps + 1)) c.node.ensures.0
    ∙ row_faulty a.shelf.now a.g r.0 a.b a.c r.1 r.2
