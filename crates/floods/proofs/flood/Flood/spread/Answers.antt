-- `floods::flood::Flood::spread` meets its contract. The loop's invariant: the places that the steps so far lead to are looked at. Assumes nothing.
use mathlib.Core.Path.{◌≡◌, ◌∙◌}
use Prim.Native.Nat.{ℕ, ◌-◌, ◌+◌, ◌<◌}
use native.Mathlib.Omega.{arith}
use lib.ListN.{get_or}
use Rattle.grids.specs.Grid.{grid_size, Spot, around}
use Rattle.grids.proofs.Around.{spot_le, around_le}
use Rattle.floods.specs.Flood.{Sized}
use Rattle.floods.proofs.Parts.{spread_more, room}
use Rattle.floods.proofs.flood.Flood.spread.Goals as goal
use Rattle.floods.proofs.flood.Flood.spread.Goals.{In-loop-step}

-- where a step leads
led : (from o : ℕ) → Spot from → o < 18
    → (from - 307 + get_or around o 0 < grid_size) × (from - 307 + get_or around o 0 + 307 ≡ from + get_or around o 0)
led from o s h = omega (arith, spot_le from s, s.inner, around_le o h)

-- grid and queue have their size, also between two steps
sized : (c : In-loop-step) → Sized c.loop-step.grid.cells c.loop-step.self.places
sized c = record { grid = c.loop-step.grid.whole; queue = c.loop-step.self.room }

pub visit-requires : goal.visit-requires
visit-requires c =
    let a = c.args in
    let i = c.loop-step.invariant in
    let l = led a.from c.loop-step.step-index c.requires.0 (omega arith) in
    (l.0, room (sized (goal.at.visit-requires c).In-loop-step) a.self.now.small l.0 (omega arith) l.1 i.2)

pub loop-step-preserved : goal.loop-step-preserved
loop-step-preserved c =
    let a = c.args in
    let i = c.loop-step.invariant in
    let l = led a.from c.loop-step.step-index c.requires.0 (omega arith) in
    let (number, head, seen) = c.visit.ensures in (
      number ∙ i.0,
      head ∙ i.1,
      spread_more (sized (goal.at.loop-step-preserved c).In-loop-step) a.self.now.small l.0 (omega arith) l.1 i.2 (rw i.0 at seen),
    )
