-- Full rounds exist: each listener in turn hears from each direction what the speaker holds then. Assumes nothing.
use mathlib.Core.Path.{◌≡◌, ap, ◌∙◌}
use mathlib.Core.Logic.{inl, inr}
use mathlib.Core.List.{List, [], ◌∷◌, ◌++◌, append_assoc, append-nil}
use Prim.Native.Nat.{ℕ, zero, suc, ◌+◌, ◌*◌, ◌/◌, ◌%◌, ◌<◌}
use native.Mathlib.Omega.{arith}
use native.Mathlib.Nat.{eq-or-lt_of_le, le_of_suc-le-suc}
use lib.Dec.{T}
use Rattle.mesh.specs.Mesh.{nodes}
use Rattle.mesh.specs.Cells.{Map}
use Rattle.mesh.specs.declared.Sizes.{Sizes}
use Rattle.talk.specs.Rounds.{Call, hearing, run, held, stretch, Told, FullRound, FullRounds, none, more}
use Rattle.talk.proofs.State.{pair_talks, dir_lt_six}
use Rattle.talk.proofs.Later.{stretch_join}

module _ (S : Sizes) (o : ℕ) (s : List ℕ) where
  -- the call for node i / 6 and direction i % 6, after the calls a
  abbrev call : List Call → ℕ → Call
  call a i = hearing (i / 6) (i % 6) (held S o s a (i / 6) (i % 6))

  unfoldable pub sweep : ℕ → List Call
  sweep zero = []
  sweep (suc n) = sweep n ++ call (sweep n) n ∷ []

  pub sweep_kept : (n : ℕ) → T (stretch S o s (sweep n))
  unfolding sweep
  sweep_kept zero = tt
  sweep_kept (suc n) = stretch_join S o (sweep n) (call (sweep n) n ∷ []) s (sweep_kept n) tt

  sweep_has : (n i : ℕ) → i < n → (a b c : List Call) × (sweep n ≡ a ++ b ++ call a i ∷ c)
  unfolding sweep
  sweep_has zero i h = absurd (omega arith)
  sweep_has (suc n) i h = elim (eq-or-lt_of_le (le_of_suc-le-suc h)) [
    | inl e ↦ (sweep n, [], [], rw (e, append-nil))
    | inr l ↦
        let (a, b, c, e) = sweep_has n i l in
        let last : List Call = call (sweep n) n ∷ [] in
        (a, b, c ++ last, ap (λ (x : List Call). x ++ last) e ∙ append_assoc (a ++ b) (call a i ∷ c) last)
  ]

  told_at : (n i : ℕ) → i < n → Told S o s (sweep n) (i / 6) (i % 6)
  told_at n i l = let (a, b, c, e) = sweep_has n i l in record { before = a; between = b; since = c; parts = e }

  sweep_told : (n k j : ℕ) → k < n → j < 6 → Told S o s (sweep (6 * n)) k j
  sweep_told n k j l h =
      let ek : (6 * k + j) / 6 ≡ k = omega arith in
      let ej : (6 * k + j) % 6 ≡ j = omega arith in
      rw (ek, ej) at (told_at (6 * n) (6 * k + j) (omega arith))

module _ (m : Map) (o : ℕ) where
  pub sweep_full : (s : List ℕ) → FullRound m o s (sweep m.sizes o s (6 * nodes m.sizes))
  sweep_full s = record {
    kept = sweep_kept m.sizes o s (6 * nodes m.sizes);
    each = λ k j t. let r = pair_talks m k j t in sweep_told m.sizes o s (nodes m.sizes) k j r.lt (dir_lt_six m k j r);
  }

  pub full_rounds : (n : ℕ) (s : List ℕ) → (t : List ℕ) × FullRounds m o t n s
  full_rounds zero s = (s, none)
  full_rounds (suc n) s =
      let cs = sweep m.sizes o s (6 * nodes m.sizes) in
      let (t, r) = full_rounds n (run m.sizes o s cs) in
      (t, more cs (sweep_full s) r)
