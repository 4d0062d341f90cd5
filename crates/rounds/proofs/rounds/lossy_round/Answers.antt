-- `rounds::rounds::lossy_round` meets its contract: the first i visits have been made. Assumes nothing.
use mathlib.Core.Path.{◌≡◌, sym, ap, ap₂, ◌∙◌, subst⁻¹}
use Prim.Native.Nat.{ℕ, ◌+◌, ◌*◌, ◌%◌}
use native.Mathlib.Nat.{mod-lt}
use native.Mathlib.Omega.{arith}
use Rattle.rounds.specs.Chance.{chosen}
use Rattle.rounds.specs.Links.{links, net, visit, Going}
use Rattle.rounds.specs.Rounds.{visits}
use Rattle.rounds.proofs.Going.{following_small, visits_going}
use Rattle.rounds.proofs.Counted.{no_visit, visit_more}
use Rattle.rounds.proofs.Visited.{lossy}
use Rattle.rounds.proofs.rounds.lossy_round.Goals as goal
use Rattle.rounds.proofs.rounds.lossy_round.Goals.{At-loop-i}

-- in a turn the nodes are in a sound state still
going : (l : At-loop-i) → Going l.args.s l.args.o (net l.loop-i.state l.loop-i.way l.loop-i.last)
going l =
    let a = l.args in
    subst⁻¹ (Going a.s a.o) l.loop-i.invariant
    (visits_going a.s a.o l.chosen-first.result l.stride-step.result (net a.state.now a.way.now l.following-last.result)
    (record { fit = l.requires.fit; room = l.requires.room; small = rw l.following-last.ensures (following_small l.following-g.result) }) l.loop-i.i)

pub loop-i-init : goal.loop-i-init
loop-i-init c = no_visit _ _ _ _ _

pub visit-last-requires : goal.visit-last-requires
visit-last-requires c =
    let h = mod-lt (c.chosen-first.result + c.stride-step.result * c.loop-i.i) c.links-n.ensures.1 in
    (going (goal.at.visit-last-requires c).At-loop-i, omega (arith, h, c.links-n.ensures.0))

pub loop-i-preserved : goal.loop-i-preserved
loop-i-preserved c =
    let a = c.args in
    let i = c.loop-i.i in
    let first = c.chosen-first.result in
    let step = c.stride-step.result in
    let e = ap (λ (n : ℕ). (first + step * i) % n) c.links-n.ensures.0 in
    c.visit-last.ensures ∙ ap₂ (visit a.s a.o) c.loop-i.invariant e ∙ sym (visit_more a.s a.o first step _ i)

pub returns : goal.returns
returns c =
    let a = c.args in
    let first = c.chosen-first.result in
    let step = c.stride-step.result in
    let all : c.loop-i.i ≡ links a.s = omega (arith, c.links-n.ensures.0) in
    let from = c.chosen-first.ensures.0 ∙ ap (λ (k : ℕ). chosen k c.following-g.result) c.links-n.ensures.0 in
    c.loop-i.invariant
    ∙ ap (visits a.s a.o first step (net a.state.now a.way.now c.following-last.result)) all
    ∙ lossy a.s a.o (net a.state.now a.way.now a.drawn) c.following-g.result c.following-last.result first step
    c.following-g.ensures c.following-last.ensures from c.stride-step.ensures.0
