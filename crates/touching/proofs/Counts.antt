-- Sums and counts over 0 .. n - 1: one summand more, and what is counted elsewhere. Assumes nothing.
use mathlib.Core.Path.{◌≡◌, refl, sym, ap}
use mathlib.Core.Logic.{◌⊎◌, inl, inr}
use mathlib.Core.Bool.{Bool, true, false, ◌&&◌}
use Prim.Native.Nat.{ℕ, zero, suc, ◌+◌, ◌≤◌, ◌<◌}
use native.Mathlib.Omega.{arith}
use native.Mathlib.Nat.{eq-or-lt_of_le, le_of_suc-le-suc}
use lib.Dec.{eqb}
use borrow.Author.Tests.{eq-eqb, ne_eqb}
use Rattle.mesh.specs.Tools.{bit, sum, count, any}
use Rattle.mesh.proofs.Tests.{T-and, T-eq, T-no, T-any, tried, holds_true}
use Rattle.mesh.proofs.Tables.{sum_zero}

pub same_or_not : (i j : ℕ) → (i ≡ j) ⊎ (i ≡ j → ⊥)
same_or_not i j = elim (tried (eqb i j)) [ inl t ↦ inl ((T-eq i j).0 t) | inr t ↦ inr (λ e. (T-no (eqb i j)).0 t ((T-eq i j).1 e)) ]

pub sum_same : (n : ℕ) (f g : ℕ → ℕ) → ((k : ℕ) → k < n → f k ≡ g k) → sum n f ≡ sum n g
unfolding sum
sum_same zero f g h = refl
sum_same (suc n) f g h = omega (arith, h n (omega arith), sum_same n f g (λ k l. h k (omega arith)))

-- one summand is one more, the others are the same
pub sum_raise : (n : ℕ) (f g : ℕ → ℕ) (k : ℕ) → k < n → g k ≡ suc (f k) → ((j : ℕ) → (j ≡ k → ⊥) → g j ≡ f j) → sum n g ≡ suc (sum n f)
unfolding sum
sum_raise zero f g k l e h = absurd (omega arith)
sum_raise (suc n) f g k l e h = elim (eq-or-lt_of_le (le_of_suc-le-suc l)) [
  | inl q ↦ omega (arith, ap f q, ap g q, sum_same n g f (λ j r. h j (λ s. omega arith)))
  | inr q ↦ omega (arith, h n (λ s. omega arith), sum_raise n f g k q e h)
]

pub count_le : (n : ℕ) (p : ℕ → Bool) → count n p ≤ n
unfolding sum
count_le zero p = omega arith
count_le (suc n) p = omega (arith, one (p n), count_le n p)
  where
    one : (b : Bool) → bit b ≤ 1
    one true = omega arith
    one false = omega arith

-- ---- numbers that f takes to different places below m are counted there

-- j is where f takes one of the first n that pass the test
abbrev pub image : (ℕ → ℕ) → (ℕ → Bool) → ℕ → ℕ → Bool
image f q n j = any n λ k. q k && eqb (f k) j

module _ (f : ℕ → ℕ) (q : ℕ → Bool) (m : ℕ) where
  no_image : (n j : ℕ) → ((k : ℕ) → k < n → f k ≡ j → ⊥) → image f q n j ≡ false
  no_image n j h = go (image f q n j) refl
    where
      go : (b : Bool) → image f q n j ≡ b → b ≡ false
      go true e =
          let (k, l, t) = (T-any n (λ k. q k && eqb (f k) j)).0 ((holds_true (image f q n j)).1 e) in
          absurd (h k l ((T-eq (f k) j).0 ((T-and (q k) (eqb (f k) j)).0 t).1))
      go false e = refl

  pub image_count : (n : ℕ) → ((k : ℕ) → k < n → f k < m) → ((i k : ℕ) → i < k → k < n → f i ≡ f k → ⊥) → count m (image f q n) ≡ count n q
  unfolding any sum
  image_count zero lt apart = sum_zero m (λ j. bit (image f q zero j)) λ j l. refl
  image_count (suc n) lt apart = split (q n) refl (image_count n (λ k l. lt k (omega arith)) (λ i k l h. apart i k l (omega arith)))
    where
      new : q n ≡ true → bit (image f q (suc n) (f n)) ≡ suc (bit (image f q n (f n)))
      new e = rw (e, eq-eqb (f n) (f n) refl, no_image n (f n) (λ k l. apart k n l (omega arith)))

      old : q n ≡ true → (j : ℕ) → (j ≡ f n → ⊥) → bit (image f q (suc n) j) ≡ bit (image f q n j)
      old e j h = rw (e, ne_eqb (f n) j (λ w. h (sym w)))

      split : (b : Bool) → q n ≡ b → count m (image f q n) ≡ count n q → count m (image f q (suc n)) ≡ bit (q n) + count n q
      split true e ih =
          omega (
            arith,
            sum_raise m (λ j. bit (image f q n j)) (λ j. bit (image f q (suc n) j)) (f n) (lt n (omega arith))
                (new e) (old e),
            ap bit e,
            ih,
          )
      split false e ih = omega (arith, sum_same m (λ j. bit (image f q (suc n) j)) (λ j. bit (image f q n j)) (λ j _. rw e), ap bit e, ih)

count_every : (n : ℕ) → count n (λ _. true) ≡ n
unfolding sum
count_every zero = refl
count_every (suc n) = omega (arith, count_every n)

-- n different numbers below m: n is at most m
pub few : (f : ℕ → ℕ) (m n : ℕ) → ((i : ℕ) → i < n → f i < m) → ((i j : ℕ) → i < j → j < n → f i ≡ f j → ⊥) → n ≤ m
few f m n lt apart = omega (arith, image_count f (λ _. true) m n lt apart, count_every n, count_le m (image f (λ _. true) n))
