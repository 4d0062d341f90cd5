-- `text::tell` meets its contract. Assumes nothing.
use Rattle.text.proofs.Telling.{Telling}
use Rattle.text.proofs.tell.Given as goal

abbrev pub invariant-loop-b : goal.invariant-loop-b
invariant-loop-b l = Telling l.form l.numbers l.initial.out l.at l.b-index l.left l.out l.next
