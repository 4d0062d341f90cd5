-- `grids::Grid::copy_out` meets its contract. The loop's invariant: the layers below `z` are copied. Assumes nothing.
use Prim.Native.Nat.{◌*◌}
use Rattle.grids.specs.Layout.{Copied}
use Rattle.grids.proofs.Grid.copy_out.Given as goal

abbrev pub invariant-loop-z : goal.invariant-loop-z
invariant-loop-z l = Copied l.s l.self.cells l.initial.table (l.s.w * (l.s.h * l.z)) l.table
