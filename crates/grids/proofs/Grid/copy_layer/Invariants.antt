-- `grids::Grid::copy_layer` meets its contract. The loop's invariant: the rows below `y` are copied. Assumes nothing.
use mathlib.Core.List.{List}
use Prim.Native.Nat.{ℕ, ◌+◌, ◌*◌}
use Rattle.grids.specs.Layout.{Copied}
use Rattle.grids.proofs.Grid.copy_layer.Given as goal

abbrev pub invariant-loop-y : goal.invariant-loop-y
invariant-loop-y l = (old : List ℕ) → Copied l.s l.self.cells old (l.s.w * (l.s.h * l.z)) l.initial.table → Copied l.s l.self.cells old (l.s.w * (l.y + l.s.h * l.z)) l.table
