-- How far apart the numbers of two neighbours are: 1 on X, a row on Y, a layer on Z; and rows of nodes. Assumes nothing.
use mathlib.Core.Path.{◌≡◌, sym, ap, ◌∙◌, subst}
use mathlib.Core.Bool.{Bool}
use Prim.Native.Nat.{ℕ, zero, suc, ◌+◌, ◌-◌, ◌*◌, ◌/◌, ◌%◌, ◌<◌, ◌≤◌}
use native.Mathlib.Nat.{zero-add, add-zero, suc-add, mul-zero, mul-suc, mul-add, mul-one, mul_comm, mod-lt, mod-add-div, div-lt_iff_lt-mul}
use native.Mathlib.Omega.{arith}
use lib.Dec.{T}
use Rattle.mesh.specs.Tools.{all, sum}
use Rattle.mesh.specs.Mesh.{Axis, X, Y, Z, span, on, place, nodes, number, Inside}
use Rattle.mesh.specs.declared.Sizes.{Sizes}
use Rattle.mesh.specs.declared.Place.{Place}
use Rattle.mesh.proofs.Tests.{T-all, bool_ext}
use Rattle.mesh.proofs.Numbers.{digit_lt, number_lt, row_end}
use Rattle.mesh.proofs.Steps.{put, put_in}

abbrev pub stride : Sizes → Axis → ℕ
stride S X = 1
stride S Y = S.w
stride S Z = S.w * S.h

module _ (S : Sizes) (p : Place) where
  pub number_up : (a : Axis) (c : ℕ) → number S (put a p (c + 1)) ≡ number S (put a p c) + stride S a
  number_up X c = omega arith
  number_up Y c = omega (arith, row_end S.w S.h c p.z)
  number_up Z c =
      let e : S.h * (c + 1) ≡ S.h * c + S.h = mul-add S.h c 1 ∙ ap (λ (n : ℕ). S.h * c + n) (mul-one S.h) in
      let f : S.w * (p.y + S.h * (c + 1)) ≡ S.w * (p.y + S.h * c) + S.w * S.h =
      ap (λ (n : ℕ). S.w * n) (omega arith) ∙ mul-add S.w (p.y + S.h * c) S.h in
      omega arith

  number_on : (a : Axis) → number S (put a p (on p a)) ≡ number S p
  number_on X = omega arith
  number_on Y = omega arith
  number_on Z = omega arith

  module _ (i : Inside S p) (a : Axis) where
    -- the node with the next coordinate, where there is one, and the node with the one before
    pub up_lt : on p a + 1 < span S a → number S p + stride S a < nodes S
    up_lt h = omega (arith, number_up a (on p a), number_on a, number_lt S (put a p (on p a + 1)) (put_in S p i a (on p a + 1) h))

    pub up_is : number S (put a p (on p a + 1)) ≡ number S p + stride S a
    up_is = omega (arith, number_up a (on p a), number_on a)

    down_sum : 0 < on p a → number S (put a p (on p a - 1)) + stride S a ≡ number S p
    down_sum h =
        let e : on p a - 1 + 1 ≡ on p a = omega arith in
        omega (arith, number_up a (on p a - 1), ap (λ (c : ℕ). number S (put a p c)) e, number_on a)

    pub down_le : 0 < on p a → stride S a ≤ number S p
    down_le h = omega (arith, down_sum h)

    pub down_is : 0 < on p a → number S (put a p (on p a - 1)) ≡ number S p - stride S a
    down_is h = omega (arith, down_sum h)

-- ---- rows, one after another: row r is that of y = r % h and z = r / h

module _ (S : Sizes) (r : ℕ) where
  abbrev pub in_row : ℕ → Place
  in_row x = place x (r % S.h) (r / S.h)

  pub row_number : (x : ℕ) → number S (in_row x) ≡ x + S.w * r
  row_number x = ap (λ (n : ℕ). x + S.w * n) (mod-add-div r S.h)

-- a test of all nodes, and a sum over them, row by row
pub all_rows : (w n : ℕ) (p : ℕ → Bool) → all (w * n) p ≡ all n λ r. all w λ x. p (x + w * r)
all_rows w n p = bool_ext (all (w * n) p) (all n λ r. all w λ x. p (x + w * r))
    (λ t. (T-all n (λ r. all w λ x. p (x + w * r))).1 λ r l. (T-all w (λ x. p (x + w * r))).1 λ x h. (T-all (w * n) p).0 t (x + w * r) (digit_lt h l))
    (λ t. (T-all (w * n) p).1 λ k l.
    let f = (T-all n (λ r. all w λ x. p (x + w * r))).0 t (k / w) (div_lt w n k l) in
    subst (λ (i : ℕ). T (p i)) (mod-add-div k w) ((T-all w (λ x. p (x + w * (k / w)))).0 f (k % w) (mod-lt k (wide w n k l))))
  where
    wide : (w n k : ℕ) → k < w * n → 0 < w
    wide zero n k l = omega arith
    wide (suc w) n k l = omega arith

    div_lt : (w n k : ℕ) → k < w * n → k / w < n
    div_lt w n k l = (div-lt_iff_lt-mul (wide w n k l)).1 (rw (mul_comm n w) l)

sum_parts : (a b : ℕ) (f : ℕ → ℕ) → sum (b + a) f ≡ sum a f + sum b λ i. f (i + a)
unfolding sum
sum_parts a zero f = rw (zero-add a) (sym (add-zero (sum a f)))
sum_parts a (suc b) f = rw (suc-add b a, sum_parts a b f) (omega arith)

pub sum_rows : (w n : ℕ) (f : ℕ → ℕ) → sum (w * n) f ≡ sum n λ r. sum w λ x. f (x + w * r)
unfolding sum
sum_rows w zero f = rw (mul-zero w)
sum_rows w (suc n) f =
    let e : w * suc n ≡ w + w * n = omega (arith, mul-suc w n) in
    rw (e, sum_parts (w * n) w f, sum_rows w n f) (omega arith)
