-- Tables, sums and counts over 0 .. n - 1. Assumes nothing.
use mathlib.Core.Path.{◌≡◌, refl, ap}
use mathlib.Core.Logic.{inl, inr}
use mathlib.Core.Bool.{Bool, true, false}
use Prim.Native.Nat.{ℕ, zero, suc, ◌+◌, ◌≤◌, ◌<◌}
use native.Mathlib.Omega.{arith}
use native.Mathlib.Numerals.{add-one}
use native.Mathlib.Nat.{eq-or-lt_of_le, le_of_suc-le-suc, not-suc-le-zero}
use lib.Dec.{T}
use lib.ListN.{length, get_or}
use Rattle.mesh.specs.Tools.{table, sum, bit, count}

pub length_table : {A : Type 0} (f : ℕ → A) (n : ℕ) → length (table f n) ≡ n
unfolding table
length_table f zero = refl
length_table f (suc n) = ap suc (length_table (λ i. f (suc i)) n)

pub get_d_table : {A : Type 0} (f : ℕ → A) (n i : ℕ) (d : A) → i < n → get_or (table f n) i d ≡ f i
unfolding table
get_d_table f zero i d h = absurd (not-suc-le-zero h)
get_d_table f (suc n) zero d h = refl
get_d_table f (suc n) (suc i) d h = get_d_table (λ k. f (suc k)) n i d (le_of_suc-le-suc h)

pub sum_same : (n : ℕ) (f g : ℕ → ℕ) → ((k : ℕ) → k < n → f k ≡ g k) → sum n f ≡ sum n g
unfolding sum
sum_same zero f g e = refl
sum_same (suc n) f g e = omega (arith, e n (omega arith), sum_same n f g (λ k l. e k (omega arith)))

-- none, one more, as a loop counts, and the first apart
pub sum_none : (f : ℕ → ℕ) → sum 0 f ≡ 0
unfolding sum
sum_none f = refl

pub sum_more : (n : ℕ) (f : ℕ → ℕ) → sum (n + 1) f ≡ f n + sum n f
unfolding sum
sum_more n f = rw add-one

pub sum_first : (n : ℕ) (f : ℕ → ℕ) → sum (suc n) f ≡ f 0 + sum n λ k. f (suc k)
unfolding sum
sum_first zero f = refl
sum_first (suc n) f = omega (arith, sum_first n f)

pub sum_mono : (n : ℕ) (f g : ℕ → ℕ) → ((k : ℕ) → k < n → f k ≤ g k) → sum n f ≤ sum n g
unfolding sum
sum_mono zero f g h = omega arith
sum_mono (suc n) f g h = omega (arith, h n (omega arith), sum_mono n f g (λ k l. h k (omega arith)))

-- each summand of the smaller sum is the smaller, and the smaller sum is not the smaller: they agree everywhere
pub sum_tight : (n : ℕ) (f g : ℕ → ℕ) → ((k : ℕ) → k < n → f k ≤ g k) → sum n g ≤ sum n f → (k : ℕ) → k < n → g k ≤ f k
unfolding sum
sum_tight zero f g h t k l = omega arith
sum_tight (suc n) f g h t k l =
    let below : (i : ℕ) → i < n → f i ≤ g i = λ i q. h i (omega arith) in
    let at : f n ≤ g n = h n (omega arith) in
    let rest : sum n f ≤ sum n g = sum_mono n f g below in
    elim (eq-or-lt_of_le (le_of_suc-le-suc l)) [
      | inl e ↦ rw e (omega arith)
      | inr q ↦ sum_tight n f g below (omega arith) k q
    ]

pub sum_part : (n : ℕ) (f : ℕ → ℕ) (k : ℕ) → k < n → f k ≤ sum n f
unfolding sum
sum_part zero f k l = omega arith
sum_part (suc n) f k l = elim (eq-or-lt_of_le (le_of_suc-le-suc l)) [
  | inl e ↦ rw e (omega arith)
  | inr q ↦ omega (arith, sum_part n f k q)
]

pub sum_zero : (n : ℕ) (f : ℕ → ℕ) → ((k : ℕ) → k < n → f k ≡ 0) → sum n f ≡ 0
unfolding sum
sum_zero zero f h = refl
sum_zero (suc n) f h = omega (arith, h n (omega arith), sum_zero n f (λ k l. h k (omega arith)))

bit_le : (a b : Bool) → (T a → T b) → bit a ≤ bit b
bit_le true true h = omega arith
bit_le true false h = absurd (h tt)
bit_le false b h = omega arith

le_bit : (a b : Bool) → bit a ≤ bit b → T a → T b
le_bit true true h t = tt
le_bit true false h t = omega arith
le_bit false b h t = absurd t

pub count_mono : (n : ℕ) (p q : ℕ → Bool) → ((k : ℕ) → k < n → T (p k) → T (q k)) → count n p ≤ count n q
count_mono n p q h = sum_mono n _ _ λ k l. bit_le (p k) (q k) (h k l)

pub count_tight : (n : ℕ) (p q : ℕ → Bool) → ((k : ℕ) → k < n → T (p k) → T (q k)) → count n q ≤ count n p → (k : ℕ) → k < n → T (q k) → T (p k)
count_tight n p q h t k l = le_bit (q k) (p k) (sum_tight n _ _ (λ i r. bit_le (p i) (q i) (h i r)) t k l)
