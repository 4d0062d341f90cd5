-- `marks::blocked::meet` meets its contract: what is joined is 0 only while no turn has found three faulty cells. Assumes nothing.
use Rattle.std.proofs.Common.{ℕ, List, length, ap, ◌∙◌, arith, subst}
use borrow.Author.Tests.{eqb-true, not-false}
use Rattle.std.proofs.lemmas.List.{length_push}
use Rattle.std.proofs.lemmas.Iterator.{YieldsList-from_slice, YieldsList-from_zip}
use Rattle.std.proofs.lemmas.Iterator.Consumers.{YieldsList-turn, YieldsList-end}
use Rattle.mesh.specs.Tools.{bit}
use Rattle.mesh.specs.Cells.{faulty_cell}
use Rattle.marks.specs.Stretches.{Apart}
use Rattle.marks.proofs.Stretches.{apart_more, stretch, three_long, three_at}
use Rattle.marks.proofs.blocked.meet.Goals as goal

pub loop-x-preserved : goal.loop-x-preserved
loop-x-preserved c =
    let a = c.args in
    let l = c.loop-x in
    let r = c.requires in
    let i = c.into_iter-x-iterator.result in
    let of : ℕ → List ℕ = stretch a.cells.now a.n in
    let all = YieldsList-from_zip (YieldsList-from_zip (YieldsList-from_slice {s = i.a.a} (of a.p) (grind arith)) (YieldsList-from_slice {s = i.a.b} (of a.q) (grind arith)))
    (YieldsList-from_slice {s = i.b} (of a.r) (grind arith)) in
    let t = YieldsList-turn all l.yielded _ l.yielded_by _ c.next.new.self _ c.in-Some.is c.next.ensures.steps in
    let long = three_long a.cells.now a.n a.p a.q a.r r.0 r.1 r.2 in
    let at = three_at a.cells.now a.n a.p a.q a.r r.0 r.1 r.2 (length l.yielded) _ (omega (arith, t.0, long)) t.1 in
    rw (length_push l.yielded _)
    (apart_more a.cells.now a.p a.q a.r (length l.yielded) l.met _ _ _ l.invariant
    (c.faulty_bit.ensures ∙ ap (λ n. bit (faulty_cell n)) at.0) (c.faulty_bit-in-loop-x.ensures ∙ ap (λ n. bit (faulty_cell n)) at.1)
    (c.faulty_bit-in-loop-x-2.ensures ∙ ap (λ n. bit (faulty_cell n)) at.2))

pub returns : goal.returns
returns c t =
    let a = c.args in
    let l = c.loop-x in
    let r = c.requires in
    let i = c.into_iter-x-iterator.result in
    let of : ℕ → List ℕ = stretch a.cells.now a.n in
    let all = YieldsList-from_zip (YieldsList-from_zip (YieldsList-from_slice {s = i.a.a} (of a.p) (grind arith)) (YieldsList-from_slice {s = i.a.b} (of a.q) (grind arith)))
    (YieldsList-from_slice {s = i.b} (of a.r) (grind arith)) in
    let e = YieldsList-end all l.yielded _ l.yielded_by _ c.next.new.self c.in-None.is c.next.ensures.steps in
    subst (λ (n : ℕ). Apart a.cells.now a.p a.q a.r n) (e.1 ∙ three_long a.cells.now a.n a.p a.q a.r r.0 r.1 r.2)
    (l.invariant (eqb-true l.met 0 (not-false _ t)))
