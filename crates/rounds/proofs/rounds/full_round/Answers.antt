-- `rounds::rounds::full_round` meets its contract: what the speakers of the first links hold has come. Assumes nothing.
use mathlib.Core.Path.{◌≡◌, sym, ap, ◌∙◌, subst⁻¹}
use mathlib.Core.List.{List}
use Prim.Native.Nat.{ℕ}
use native.Mathlib.Omega.{arith}
use Rattle.rounds.specs.Links.{links, saying, comes, Fit}
use Rattle.rounds.specs.Rounds.{tells, full_round}
use Rattle.rounds.proofs.Going.{tells_fit}
use Rattle.rounds.proofs.Counted.{none_told, tell_more}
use Rattle.rounds.proofs.rounds.full_round.Goals as goal
use Rattle.rounds.proofs.rounds.full_round.Goals.{At-loop-link}

-- the state in a turn is sound
fit : (l : At-loop-link) → let a = l.args in Fit a.s a.o l.loop-link.state
fit l =
    let s = l.before.before.before in
    let a = s.args in
    subst⁻¹ (Fit a.s a.o) l.loop-link.invariant (tells_fit a.s a.o a.state.now s.requires l.loop-link.link)

pub loop-link-init : goal.loop-link-init
loop-link-init c = none_told _ _ _

pub come-requires : goal.come-requires
come-requires c = (fit (goal.at.come-requires c).At-loop-link, omega (arith, c.links-link-end.ensures.0))

pub loop-link-preserved : goal.loop-link-preserved
loop-link-preserved c =
    let a = c.args in
    let i = c.loop-link.link in
    c.come.ensures
    ∙ ap (λ (w : ℕ). comes a.s a.o i w c.loop-link.state) c.saying-word.ensures
    ∙ ap (λ (t : List ℕ). comes a.s a.o i (saying a.s t i) t) c.loop-link.invariant
    ∙ sym (tell_more a.s a.o a.state.now i)

pub returns : goal.returns
unfolding full_round
returns c =
    let a = c.args in
    let e : c.loop-link.link ≡ links a.s = omega (arith, c.links-link-end.ensures.0) in
    c.loop-link.invariant ∙ ap (tells a.s a.o a.state.now) e
