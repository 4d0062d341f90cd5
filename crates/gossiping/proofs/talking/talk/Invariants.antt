-- `gossiping::talking::talk` meets its contract: as long as news is left there is a round to come, so that the rounds end. Assumes nothing.
use mathlib.Core.Path.{◌≡◌}
use Prim.Native.Nat.{◌-◌}
use lib.ListN.{length}
use Rattle.maps.specs.Shelf.{map_on}
use Rattle.rounds.specs.Figures.{longest}
use Rattle.gossiping.proofs.Turns.{Turn}
use Rattle.gossiping.proofs.talking.talk.Given as goal

abbrev pub invariant-loop-s : goal.invariant-loop-s
invariant-loop-s g l = (length l.state ≡ length l.initial.state)
    × (length l.way ≡ length l.initial.way)
    × Turn (map_on l.shelf) l.o l.initial.page l.state l.way l.page l.drawn l.r

abbrev pub decreases-loop-s : goal.decreases-loop-s
decreases-loop-s g l = longest l.s - l.r
