-- `scans::node` meets its contract: the test and the count of its node, from six bytes at once. Assumes nothing.
use mathlib.Core.Path.{◌∙◌, ap}
use lib.Bits.{bit_and, bit_or}
use native.Mathlib.Omega.{arith}
use Rattle.talk.specs.State.{heard}
use Rattle.states.proofs.Beside.{quick_six, bits_six}
use Rattle.scans.proofs.Tested.{found, faulty_test, working_test, differs_six, differs_byte, faulty_news, working_news}
use Rattle.scans.proofs.node.Goals as goal

pub returns-then-own-eq1 : goal.returns-then-own-eq1
returns-then-own-eq1 c =
    let a = c.args in
    let t = a.state.now in
    let k = c.number-k.result in
    let (et, bt) = c.heard-told.ensures in
    let test = faulty_test a.s a.o t k c.heard-told.result.bytes et bt _ _ _ c.faulty_hears.ensures c.each.ensures c.eq-failed.ensures c.if-own-eq1.true in
    let none = c.each-then-own-eq1.ensures in
    rw (c.then_some.ensures, ← c.number-k.ensures.0)
    (found a.s a.o t k c.eq-failed.result c.each-then-own-eq1.result test (rw none (faulty_news a.s t k c.if-own-eq1.true)) (rw none (omega arith)))

pub returns-else-own-eq1 : goal.returns-else-own-eq1
returns-else-own-eq1 c =
    let a = c.args in
    let t = a.state.now in
    let k = c.number-k.result in
    let told = c.heard-told.result.bytes in
    let said = c.around-said.result.bytes in
    let (et, bt) = c.heard-told.ensures in
    let (es, bs) = c.around-said.ensures in
    let own = c.ruled.ensures ∙ quick_six a.s a.o told (heard t k) bt et in
    let marked = c.bitor.ensures ∙ ap (bit_or told) (c.bitand.ensures ∙ ap (bit_and said) c.each-2.ensures) in
    let test = working_test a.s a.o t k told et bt said es bs _ _ _ own marked c.eq.ensures c.if-own-eq1.false in
    let six = c.some-news.ensures.0 ∙ bits_six _ _ (differs_byte a.s a.o t k told et bt said es bs)
    (c.bitxor.ensures ∙ differs_six a.s a.o t k told et bt said es bs) in
    rw (c.then_some-else-own-eq1.ensures, ← c.number-k.ensures.0)
    (found a.s a.o t k _ c.some-news.result test
    (working_news a.s a.o t k told et bt said es bs c.some-news.result.bytes six c.if-own-eq1.false) c.some-news.ensures.1)
