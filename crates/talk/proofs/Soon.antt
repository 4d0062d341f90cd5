-- W + H + D full rounds settle: each brings what shows a mark one step nearer, and no mark is shown by more steps ahead than that.
-- Assumes nothing.
use mathlib.Core.Path.{◌≡◌, refl, subst}
use mathlib.Core.List.{List}
use Prim.Native.Nat.{ℕ, suc, ◌+◌, ◌≤◌}
use native.Mathlib.Omega.{arith}
use lib.Dec.{T}
use Rattle.mesh.specs.Mesh.{in_range}
use Rattle.mesh.specs.Steps.{neighbour}
use Rattle.mesh.specs.Cells.{Map}
use Rattle.rules.specs.Marks.{Kind, stuck_within, stuck}
use Rattle.mesh.specs.declared.Sizes.{Sizes}
use Rattle.talk.specs.Sound.{SoundOn}
use Rattle.talk.specs.Hear.{outstanding_on}
use Rattle.talk.specs.Rounds.{Call, run, FullRound, FullRounds, none, more}
use Rattle.talk.proofs.State.{pair_talks, speaker_lt}
use Rattle.talk.proofs.Later.{later_grown, rounds_later, round_hears}
use Rattle.talk.proofs.Exact.{no_more}
use Rattle.talk.proofs.Shown.{Shown, shown_held}
use Rattle.talk.proofs.Rounds.{all_heard}

module _ (m : Map) (o : ℕ) (fit : T (in_range m.sizes)) (o_le : o ≤ 7) where
  abbrev S : Sizes
  S = m.sizes

  -- a full round shows one step more
  round_shows : (a : Kind) (i : ℕ) (s : List ℕ) (cs : List Call) → SoundOn m o s → FullRound m o s cs → Shown m o a i s
      → Shown m o a (suc i) (run S o s cs)
  round_shows a i s cs z f h k j t x =
      round_hears m o fit o_le s cs z f k j t a (shown_held m o a i s z h (neighbour S k j) (speaker_lt m k j (pair_talks m k j t)) x)

  rounds_show : (a : Kind) (t : List ℕ) {n : ℕ} {s : List ℕ} (i : ℕ) → SoundOn m o s → FullRounds m o t n s → Shown m o a i s
      → Shown m o a (n + i) t
  rounds_show a t i z none h = let e : i ≡ 0 + i = omega arith in subst (λ (k : ℕ). Shown m o a k t) e h
  rounds_show a t {s = s} i z (more {n = n} cs f r) h =
      let g = later_grown m o fit o_le s (run S o s cs) z (record { calls = cs; kept = f.kept; ends = refl }) in
      let e : n + suc i ≡ suc n + i = omega arith in
      subst (λ (k : ℕ). Shown m o a k t) e (rounds_show a t (suc i) g.sound r (round_shows a i s cs z f h))

  -- all that is shown is heard
  shown_settles : (s : List ℕ) → SoundOn m o s → ((a : Kind) → Shown m o a (S.w + S.h + S.d) s) → outstanding_on m s ≡ 0
  unfolding stuck
  shown_settles s z h = all_heard m o s z λ a k j t x.
      h a k j t (no_more m o s z (neighbour S k j) (speaker_lt m k j (pair_talks m k j t)) a x)

  pub soon_settled : (s t : List ℕ) → SoundOn m o s → FullRounds m o t (S.w + S.h + S.d) s → outstanding_on m t ≡ 0
  unfolding stuck_within
  soon_settled s t z r =
      let e : S.w + S.h + S.d + 0 ≡ S.w + S.h + S.d = omega arith in
      shown_settles t (later_grown m o fit o_le s t z (rounds_later m o t r)).sound
      λ a. subst (λ (k : ℕ). Shown m o a k t) e (rounds_show a t 0 z r λ k j p x. absurd x)
