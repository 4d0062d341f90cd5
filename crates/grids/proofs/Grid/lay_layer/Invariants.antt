-- `grids::Grid::lay_layer` meets its contract. The loop's invariant: the rows below `y` are laid. Assumes nothing.
use Prim.Native.Nat.{◌+◌, ◌*◌}
use Rattle.grids.specs.Layout.{Laid}
use Rattle.grids.proofs.Grid.lay_layer.Given as goal

abbrev pub invariant-loop-y : goal.invariant-loop-y
invariant-loop-y l = Laid l.s l.marks (307 + (17 * l.y + 289 * l.z)) l.self.cells
