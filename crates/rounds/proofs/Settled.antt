-- The nodes settle, and the round in which they do is the one that is printed last. Assumes nothing.
use mathlib.Core.Path.{◌≡◌, refl, sym, ap, ◌∙◌, subst}
use mathlib.Core.Logic.{◌≢◌}
use mathlib.Core.Bool.{Bool, cond}
use mathlib.Core.List.{List}
use Prim.Native.Nat.{ℕ, zero, suc, ◌+◌, ◌<◌, ◌≤◌}
use native.Mathlib.Decide.{ℕ_discrete}
use native.Mathlib.Omega.{arith}
use borrow.Author.Tests.{le-ltb, eq-eqb, ne_eqb}
use lib.Dec.{T}
use Rattle.mesh.specs.Mesh.{InRange, in_range}
use Rattle.mesh.specs.Cells.{Map}
use Rattle.mesh.specs.declared.Sizes.{Sizes}
use Rattle.mesh.proofs.Tests.{holds_true}
use Rattle.mesh.proofs.Answers.{sizes_is}
use Rattle.talk.specs.Sound.{SoundOn, fresh}
use Rattle.talk.specs.Rounds.{run, FullRounds, none, more}
use Rattle.talk.specs.Promise.{count_refusal, count_of, Settled, Promise}
use Rattle.talk.proofs.Same.{sound_on}
use Rattle.talk.proofs.Fresh.{fresh_promise}
use Rattle.talk.proofs.Soon.{soon_settled}
use Rattle.talk.proofs.Exists.{sweep, sweep_full}
use Rattle.talk.proofs.Promise.{promise}
use Rattle.rounds.specs.Links.{links, net}
use Rattle.rounds.specs.Rounds.{lossy_round, full_round, lossy_rounds, one_round, after_rounds}
use Rattle.rounds.specs.Figures.{outstanding_after, settled_from, longest, settled_at}
use Rattle.rounds.specs.Promise.{TalkPromise}
use Rattle.rounds.proofs.Figures.{marks_ruled}
use Rattle.rounds.proofs.Full.{round_leads}
use Rattle.rounds.proofs.Led.{later}

module _ (m : Map) (o : ℕ) where
  abbrev S : Sizes
  S = m.sizes

  abbrev at : ℕ → List ℕ
  at r = (after_rounds m o r).state

  -- ---- full rounds, after those with loss

  full_step : (r : ℕ) → lossy_rounds ≤ r → at (suc r) ≡ full_round S o (at r)
  unfolding after_rounds one_round
  full_step r h =
      let n = after_rounds m o r in
      ap (λ (b : Bool). (cond b (lossy_round S o n) (net (full_round S o n.state) n.way n.drawn)).state) (le-ltb r lossy_rounds h)

  full : (n r : ℕ) → lossy_rounds ≤ r → FullRounds m o (at (r + n)) n (at r)
  full zero r h = let e : r ≡ r + 0 = omega arith in subst (λ (k : ℕ). FullRounds m o (at k) 0 (at r)) e none
  full (suc n) r h =
      let e : at (suc r) ≡ run S o (at r) (sweep S o (at r) (links S)) = full_step r h ∙ sym (round_leads S o (at r)) in
      let size : suc r + n ≡ r + suc n = omega arith in
      let rest = subst (λ (k : ℕ). FullRounds m o (at k) n (at (suc r))) size (full n (suc r) (omega arith)) in
      more (sweep S o (at r) (links S)) (sweep_full m o (at r)) (subst (λ (s : List ℕ). FullRounds m o (at (r + suc n)) n s) e rest)

  -- ---- the first round with nothing outstanding

  pub settled_here : (n r : ℕ) → outstanding_after m o r ≡ 0 → settled_from m o n r ≡ r
  unfolding settled_from
  settled_here zero r e = refl
  settled_here (suc n) r e = rw (eq-eqb (outstanding_after m o r) 0 e, settled_from)

  pub settled_on : (n r : ℕ) → outstanding_after m o r ≢ 0 → settled_from m o (suc n) r ≡ settled_from m o n (suc r)
  unfolding settled_from
  settled_on n r h = rw (ne_eqb (outstanding_after m o r) 0 h, settled_from)

  -- looked for in n rounds from r on, and there in the last of them at the latest
  record Found (n r k : ℕ) : Type 0 where
    none_left : outstanding_after m o k ≡ 0
    within : k ≤ r + n
    before : (i : ℕ) → r ≤ i → i < k → outstanding_after m o i ≢ 0

  found : (n r : ℕ) → outstanding_after m o (r + n) ≡ 0 → Found n r (settled_from m o n r)
  unfolding settled_from
  found zero r e =
      let z : r + 0 ≡ r = omega arith in
      record { none_left = subst (λ (k : ℕ). outstanding_after m o k ≡ 0) z e; within = omega arith; before = λ i l h. absurd (omega arith) }
  found (suc n) r e = elim (ℕ_discrete (outstanding_after m o r) 0) [
    | yes q ↦ rw (settled_here (suc n) r q) (record { none_left = q; within = omega arith; before = λ i l h. absurd (omega arith) })
    | no q ↦
        let z : r + suc n ≡ suc r + n = omega arith in
        let f = found n (suc r) (subst (λ (k : ℕ). outstanding_after m o k ≡ 0) z e) in
        rw (settled_on n r q) (record {
          none_left = f.none_left;
          within = omega (arith, f.within);
          before = λ i l h. elim (ℕ_discrete i r) [ yes p ↦ rw p q | no p ↦ f.before i (omega arith) h ];
        })
  ]

  module _ (fit : InRange S) (o_le : o ≤ 7) where
    ranged : T (in_range S)
    ranged = (holds_true (in_range S)).1 (sizes_is S fit)

    abbrev promised : Promise m o (fresh m o)
    promised = promise m o ranged o_le (fresh m o) (fresh_promise m o).sound (fresh_promise m o).state

    pub sound_at : (r : ℕ) → SoundOn m o (at r)
    sound_at r = let (z, h) = promised.sound (at r) (later m o r) in sound_on m o (at r) z h

    pub last_settled : outstanding_after m o (longest S) ≡ 0
    last_settled = soon_settled m o ranged o_le (at lossy_rounds) (at (longest S)) (sound_at lossy_rounds)
        (full (S.w + S.h + S.d) lossy_rounds (omega arith))

    exact : (r : ℕ) → (count_refusal S o (at r) ≡ 0) × (count_of S o (at r) ≡ outstanding_after m o r)
    exact r = promised.exact (at r) (later m o r)

    pub talk_promise : TalkPromise m o
    talk_promise =
        let z : longest S ≡ 0 + longest S = omega arith in
        let f = found (longest S) 0 (subst (λ (k : ℕ). outstanding_after m o k ≡ 0) z last_settled) in
        let (granted, news) = exact (settled_at m o) in
        let done : Settled m o (at (settled_at m o)) = (granted, news ∙ f.none_left) in
        record {
          later = later m o;
          full = full;
          exact = exact;
          settled = done;
          first = λ r h. f.before r (omega arith) h;
          soon = omega (arith, f.within);
          marks = marks_ruled m o (at (settled_at m o)) (promised.settled (at (settled_at m o)) (later m o (settled_at m o)) done);
        }
