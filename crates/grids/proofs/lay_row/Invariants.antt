-- `grids::lay_row` meets its contract. The loop's invariant: the first `x` marks are laid. Assumes nothing.
use Prim.Native.Nat.{◌+◌}
use lib.ListN.{get_or}
use Rattle.mesh.specs.Fill.{Filled}
use Rattle.grids.specs.Grid.{shade}
use Rattle.grids.proofs.lay_row.Given as goal

abbrev pub invariant-loop-x : goal.invariant-loop-x
invariant-loop-x l = Filled (λ i. l.at + i) (λ i. shade (get_or l.marks (l.k + i) 0)) l.initial.grid l.grid l.x
