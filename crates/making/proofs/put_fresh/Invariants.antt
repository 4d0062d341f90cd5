-- `making::put_fresh` meets its contract: so many rows are done, and in the end all nodes are. Assumes nothing.
use Prim.Native.Nat.{◌*◌}
use Rattle.maps.specs.Shelf.{map_on}
use Rattle.making.specs.Making.{Fresh}
use Rattle.making.proofs.put_fresh.Given as goal

abbrev pub invariant-loop-row : goal.invariant-loop-row
invariant-loop-row l = Fresh (map_on l.shelf) l.o (l.shelf.sizes.w * l.row) l.state
