-- `text::say_number` meets its contract: the digits are stored from the last to the first. Assumes nothing.
use Rattle.text.proofs.Decimal.{Storing}
use Rattle.text.proofs.say_number.Given as goal

abbrev pub invariant-loop-rest : goal.invariant-loop-rest
invariant-loop-rest l = Storing l.n l.i l.rest l.digits

abbrev pub decreases-loop-rest : goal.decreases-loop-rest
decreases-loop-rest l = l.rest
