-- `text::tell` meets its contract. Assumes nothing.
use mathlib.Core.Logic.{inl, inr}
use native.Mathlib.Omega.{arith}
use borrow.Author.Tests.{ne_eqb}
use Rattle.text.proofs.Telling.{telling_none, telling_number, telling_byte, telling_all}
use Rattle.text.proofs.tell.Goals as goal
use Rattle.text.proofs.tell.Goals.{then-b-eq37+in_default, else-b-eq37}

pub loop-b-init : goal.loop-b-init
loop-b-init c = telling_none _ _ _ _

pub loop-b-preserved-in-Some : goal.loop-b-preserved-in-Some
loop-b-preserved-in-Some c =
    telling_number c.loop-b.invariant c.requires (omega arith) c.if-b-eq37.true c.in-Some.ensures.cases.0 c.say_number-next.ensures

pub loop-b-preserved : goal.loop-b-preserved
loop-b-preserved c =
    telling_byte c.loop-b.invariant c.requires (omega arith)
    (
    elim c.if-b-eq37.branch [
      | then-b-eq37+in_default w ↦ inr w.in_default.ensures.cases
      | else-b-eq37 w ↦ inl (ne_eqb _ _ w.if-b-eq37.false)
    ]
    )

pub returns : goal.returns
returns c = telling_all c.loop-b.invariant c.requires (omega arith)
