-- Bytes in one number: an operation on the numbers is one on each byte, and a test of the numbers is one of all bytes. By induction on how many
-- bytes there are, the lowest first. Assumes nothing.
use mathlib.Core.Path.{◌≡◌, refl, ap, ◌∙◌}
use Prim.Native.Nat.{ℕ, zero, suc, ◌+◌, ◌*◌, ◌%◌, ◌<◌, ◌≤◌}
use native.Mathlib.Omega.{arith}
use native.Mathlib.Nat.{not-suc-le-zero}
use lib.Bits.{bit_and, bit_or, bit_xor, and_block, or_block, xor_block}
use lib.Dec.{eqb}
use Rattle.std.specs.Prelude.{[], ◌∷◌, slice_index}
use Rattle.mesh.specs.Tools.{all, sum}
use Rattle.mesh.proofs.Tests.{T-eq, T-all, bool_ext}
use Rattle.mesh.proofs.Tables.{sum_first}
use Rattle.states.specs.Six.{Bytes, packed, six, ones, ◌is_but255◌}

-- ---- what is in each byte

pub packed_same : (n : ℕ) (f g : ℕ → ℕ) → ((j : ℕ) → j < n → f j ≡ g j) → packed n f ≡ packed n g
unfolding packed
packed_same zero f g e = refl
packed_same (suc n) f g e = omega (arith, e 0 (omega arith), packed_same n (λ j. f (suc j)) (λ j. g (suc j)) λ j l. e (suc j) (omega arith))

pub same_packed : (n : ℕ) (f g : ℕ → ℕ) → Bytes f → Bytes g → packed n f ≡ packed n g → (j : ℕ) → j < n → f j ≡ g j
unfolding packed
same_packed zero f g bf bg e j l = absurd (not-suc-le-zero l)
same_packed (suc n) f g bf bg e zero l = omega (arith, bf 0, bg 0)
same_packed (suc n) f g bf bg e (suc j) l =
    same_packed n (λ j. f (suc j)) (λ j. g (suc j)) (λ j. bf (suc j)) (λ j. bg (suc j)) (omega (arith, bf 0, bg 0)) j (omega arith)

pub packed_eq : (n : ℕ) (f g : ℕ → ℕ) → Bytes f → Bytes g → eqb (packed n f) (packed n g) ≡ all n λ j. eqb (f j) (g j)
packed_eq n f g bf bg = bool_ext (eqb (packed n f) (packed n g)) (all n λ j. eqb (f j) (g j))
    (λ t. (T-all n (λ j. eqb (f j) (g j))).1 λ j l. (T-eq (f j) (g j)).1 (same_packed n f g bf bg ((T-eq (packed n f) (packed n g)).0 t) j l))
    (λ t. (T-eq (packed n f) (packed n g)).1 (packed_same n f g λ j l. (T-eq (f j) (g j)).0 ((T-all n (λ j. eqb (f j) (g j))).0 t j l)))

-- ---- operations

module _ (op : ℕ → ℕ → ℕ) (none : op 0 0 ≡ 0)
    (block : (a b r s : ℕ) → r < 256 → s < 256 → op (a * 256 + r) (b * 256 + s) ≡ op a b * 256 + op r s) where
  packed_op : (n : ℕ) (f g : ℕ → ℕ) → Bytes f → Bytes g → op (packed n f) (packed n g) ≡ packed n λ j. op (f j) (g j)
  unfolding packed
  packed_op zero f g bf bg = none
  packed_op (suc n) f g bf bg =
      block (packed n λ j. f (suc j)) (packed n λ j. g (suc j)) (f 0) (g 0) (bf 0) (bg 0)
      ∙ ap (λ (r : ℕ). r * 256 + op (f 0) (g 0)) (packed_op n (λ j. f (suc j)) (λ j. g (suc j)) (λ j. bf (suc j)) (λ j. bg (suc j)))

pub packed_and : (n : ℕ) (f g : ℕ → ℕ) → Bytes f → Bytes g → bit_and (packed n f) (packed n g) ≡ packed n λ j. bit_and (f j) (g j)
packed_and = packed_op bit_and refl (and_block 8)

pub packed_or : (n : ℕ) (f g : ℕ → ℕ) → Bytes f → Bytes g → bit_or (packed n f) (packed n g) ≡ packed n λ j. bit_or (f j) (g j)
packed_or = packed_op bit_or refl (or_block 8)

pub packed_xor : (n : ℕ) (f g : ℕ → ℕ) → Bytes f → Bytes g → bit_xor (packed n f) (packed n g) ≡ packed n λ j. bit_xor (f j) (g j)
packed_xor = packed_op bit_xor refl (xor_block 8)

pub packed_add : (n : ℕ) (f g : ℕ → ℕ) → packed n f + packed n g ≡ packed n λ j. f j + g j
unfolding packed
packed_add zero f g = refl
packed_add (suc n) f g = omega (arith, packed_add n (λ j. f (suc j)) (λ j. g (suc j)))

pub packed_mul : (n c : ℕ) (f : ℕ → ℕ) → c * packed n f ≡ packed n λ j. c * f j
unfolding packed
packed_mul zero c f = omega arith
packed_mul (suc n) c f = omega (arith, packed_mul n c λ j. f (suc j))

-- ---- counts

-- 256 is 1 but for 255
pub packed_sum : (n : ℕ) (f : ℕ → ℕ) → packed n f is_but255 sum n f
unfolding packed sum
packed_sum zero f = (0, refl)
packed_sum (suc n) f =
    let (e, h) = packed_sum n λ j. f (suc j) in
    (e + packed n (λ j. f (suc j)), omega (arith, h, sum_first n f))

pub packed_le : (n : ℕ) (f g : ℕ → ℕ) → ((j : ℕ) → f j ≤ g j) → packed n f ≤ packed n g
unfolding packed
packed_le zero f g h = omega arith
packed_le (suc n) f g h = omega (arith, h 0, packed_le n (λ j. f (suc j)) (λ j. g (suc j)) λ j. h (suc j))

-- bytes that are 1 but for 255 add up
pub but_add : (a b c d : ℕ) → a is_but255 c → b is_but255 d → (a + b) is_but255 (c + d)
but_add a b c d (e, h) (f, g) = (e + f, omega arith)

pub but_few : (n c : ℕ) → n is_but255 c → c < 255 → n % 255 ≡ c
but_few n c (e, h) l = rw h (omega arith)

-- as the code puts six together
pub six_is : (f : ℕ → ℕ) → six (slice_index (f 0 ∷ f 1 ∷ f 2 ∷ f 3 ∷ f 4 ∷ f 5 ∷ [])) ≡ six f
unfolding packed
six_is f = refl

-- the same byte in each
pub six_ones : (c : ℕ) → six (λ j. c) ≡ c * ones
unfolding packed
six_ones c = omega arith
