-- `making::put_row` meets its contract: so many nodes of the row are done. Assumes nothing.
use Prim.Native.Nat.{◌+◌, ◌*◌}
use Rattle.maps.specs.Shelf.{map_on}
use Rattle.making.specs.Making.{Fresh}
use Rattle.making.proofs.put_row.Given as goal

abbrev pub invariant-loop-x : goal.invariant-loop-x
invariant-loop-x l = Fresh (map_on l.shelf) l.o (l.x + l.shelf.sizes.w * l.row) l.state
