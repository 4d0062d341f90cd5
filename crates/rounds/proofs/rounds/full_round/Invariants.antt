-- `rounds::rounds::full_round` meets its contract: what the speakers of the first links hold has come. Assumes nothing.
use mathlib.Core.Path.{◌≡◌}
use Rattle.rounds.specs.Rounds.{tells}
use Rattle.rounds.proofs.rounds.full_round.Given as goal

abbrev pub invariant-loop-link : goal.invariant-loop-link
invariant-loop-link l = l.state ≡ tells l.s l.o l.initial.state l.link
