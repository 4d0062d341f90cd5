-- `grids::Grid::lay` meets its contract. The loop's invariant: the layers below `z` are laid. Assumes nothing.
use Prim.Native.Nat.{◌+◌, ◌*◌}
use Rattle.grids.specs.Layout.{Laid}
use Rattle.grids.proofs.Grid.lay.Given as goal

abbrev pub invariant-loop-z : goal.invariant-loop-z
invariant-loop-z l = Laid l.s l.marks (307 + 289 * l.z) l.self.cells
