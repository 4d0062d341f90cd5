-- `rounds::rounds::lossy_round` meets its contract: the first i visits have been made. Assumes nothing.
use mathlib.Core.Path.{◌≡◌}
use Rattle.rounds.specs.Links.{net}
use Rattle.rounds.specs.Rounds.{visits}
use Rattle.rounds.proofs.rounds.lossy_round.Given as goal

abbrev pub invariant-loop-i : goal.invariant-loop-i
invariant-loop-i l = net l.state l.way l.last ≡ visits l.s l.o l.first l.step (net l.initial.state l.initial.way l.initial.last) l.i
