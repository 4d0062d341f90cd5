-- `floods::flood::Flood::spread` meets its contract. The loop's invariant: the places that the steps so far lead to are looked at. Assumes nothing.
use mathlib.Core.Path.{◌≡◌}
use Rattle.floods.specs.Flood.{Spread}
use Rattle.floods.proofs.flood.Flood.spread.Given as goal

abbrev pub invariant-loop-step : goal.invariant-loop-step
invariant-loop-step l = (l.self.number ≡ l.initial.self.number) × (l.self.head ≡ l.initial.self.head)
    × Spread l.initial.grid.cells l.initial.self.places l.initial.self.tail l.from l.initial.self.number l.step-index l.grid.cells l.self.places l.self.tail
