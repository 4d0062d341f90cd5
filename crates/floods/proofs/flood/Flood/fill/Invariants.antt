-- `floods::flood::Flood::fill` meets its contract. The loop's invariant: the places before the head have been spread from. Assumes nothing.
use mathlib.Core.Path.{◌≡◌}
use Prim.Native.Nat.{◌-◌}
use Rattle.grids.specs.Grid.{grid_size}
use Rattle.floods.proofs.Parts.{Drained}
use Rattle.floods.proofs.flood.Flood.fill.Given as goal

abbrev pub invariant-loop-from : goal.invariant-loop-from
invariant-loop-from l = (l.self.number ≡ l.number)
    × Drained l.initial.grid.cells l.initial.self.places l.start l.number l.initial.self.tail l.grid.cells l.self.places l.self.tail l.self.head

abbrev pub decreases-loop-from : goal.decreases-loop-from
decreases-loop-from l = grid_size - l.self.head
