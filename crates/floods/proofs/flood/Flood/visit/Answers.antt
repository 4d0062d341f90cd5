-- `floods::flood::Flood::visit` meets its contract: the test chooses between the two cases of `Visited`. Assumes nothing.
use mathlib.Core.Path.{refl}
use Rattle.floods.specs.Flood.{entered, passed}
use Rattle.floods.proofs.flood.Flood.visit.Goals as goal

pub returns-then-grid-at : goal.returns-then-grid-at
returns-then-grid-at c = let (number, head, tail, places) = c.push.ensures in (number, head, rw (tail, places) (entered c.if-grid-at.true))

pub returns-else-grid-at : goal.returns-else-grid-at
returns-else-grid-at c = (refl, refl, passed c.if-grid-at.false)
