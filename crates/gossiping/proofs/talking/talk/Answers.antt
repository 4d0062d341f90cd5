-- `gossiping::talking::talk` meets its contract: as long as news is left there is a round to come, so that the rounds end. Assumes nothing.
use mathlib.Core.Path.{◌≡◌, refl, sym, ap, ◌∙◌}
use Prim.Native.Nat.{ℕ, suc, ◌+◌}
use native.Mathlib.Omega.{arith}
use Rattle.std.proofs.Common.{rules}
use Rattle.mesh.specs.Mesh.{InRange}
use Rattle.maps.specs.Shelf.{map_on}
use Rattle.text.proofs.Adding.{added_as, added_within}
use Rattle.gossiping.specs.Text.{round_lines}
use Rattle.gossiping.proofs.Turns.{turn_first, turn_going, turn_told, turn_last, turn_more, turn_next}
use Rattle.gossiping.proofs.talking.talk.Given.{Over}
use Rattle.gossiping.proofs.talking.talk.Goals as goal
use Rattle.gossiping.proofs.talking.talk.Goals.{At-loop-s}

-- what is known of the map
sized : (g : Over) (c : At-loop-s g) → InRange c.args.shelf.now.sizes
sized g c = c.args.shelf.now.sized

pub loop-s-init : goal.loop-s-init
loop-s-init g c =
    let a = c.args in
    (refl, refl, turn_first (map_on a.shelf.now) a.o a.page.now a.state.now a.way.now c.requires.1 c.requires.2)

pub tell_round-requires : goal.tell_round-requires
tell_round-requires g c =
    let fit = sized g (goal.at.tell_round-requires g c).At-loop-s in
    let t = c.loop-s.invariant.2 in
    (search rules, ((turn_going fit c.requires.0 t).fit, omega (arith, fit.w_hi, fit.h_hi, fit.d_hi, t.few, t.told.in_room, c.requires.3)))

pub one_round-drawn-requires : goal.one_round-drawn-requires
one_round-drawn-requires g c = turn_going (sized g (goal.at.one_round-drawn-requires g c).At-loop-s) c.requires.0 c.loop-s.invariant.2

pub overflow_add-r : goal.overflow_add-r
overflow_add-r g c =
    let fit = sized g (goal.at.overflow_add-r g c).At-loop-s in
    omega (arith, c.loop-s.invariant.2.few, fit.w_hi, fit.h_hi, fit.d_hi)

pub loop-s-smaller : goal.loop-s-smaller
loop-s-smaller g c =
    let fit = sized g (goal.at.loop-s-smaller g c).At-loop-s in
    omega (arith, turn_more fit c.requires.0 c.loop-s.invariant.2 λ z. c.loop-s-test.true (c.tell_round.ensures.0 ∙ z))

pub loop-s-preserved : goal.loop-s-preserved
loop-s-preserved g c =
    let (news, line) = c.tell_round.ensures in
    let fit = sized g (goal.at.loop-s-preserved g c).At-loop-s in (
      c.one_round-drawn.auto.state ∙ c.loop-s.invariant.0,
      c.one_round-drawn.auto.way ∙ c.loop-s.invariant.1,
      turn_next fit c.requires.0 c.loop-s.invariant.2 (λ z. c.loop-s-test.true (news ∙ z)) c.one_round-drawn.ensures line,
    )

pub returns : goal.returns
returns g c =
    let (news, line) = c.tell_round.ensures in
    let fit = sized g (goal.at.returns g c).At-loop-s in
    let t = c.loop-s.invariant.2 in
    let last = turn_last fit c.requires.0 t (sym news ∙ c.loop-s-test.false) in
    let rounds : c.loop-s.r + 1 ≡ suc c.loop-s.r = omega arith in
    let lines = ap (round_lines (map_on c.args.shelf.now) c.args.o) (rounds ∙ ap (λ (k : ℕ). suc k) last) in
    (last, added_within (omega (arith, fit.w_hi, fit.h_hi, fit.d_hi, t.few)) (added_as lines (turn_told fit c.requires.0 t line)))
