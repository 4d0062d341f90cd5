-- `rows::layer::faulty_layer` meets its contract: row after row. Assumes nothing.
use Rattle.mesh.specs.Fill.{Filled}
use Rattle.maps.specs.Shelf.{map_on}
use Rattle.rows.specs.Box.{faulty_row}
use Rattle.rows.proofs.layer.faulty_layer.Given as goal

abbrev pub invariant-loop-b : goal.invariant-loop-b
invariant-loop-b l = Filled (λ i. i) (λ i. faulty_row (map_on l.shelf) l.g i l.c) l.initial.row-items l.row-items l.b
