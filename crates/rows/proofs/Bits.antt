-- Bits of numbers that are joined bit by bit. Assumes nothing.
use mathlib.Core.Path.{◌≡◌, refl, sym, ap, ◌∙◌}
use mathlib.Core.Bool.{Bool, ◌&&◌, ◌||◌}
use Prim.Native.Nat.{ℕ, zero, suc, ◌+◌, ◌*◌, ◌/◌, ◌%◌, ◌^◌, ◌<◌, min, max}
use native.Mathlib.Nat.{zero-add}
use native.Mathlib.Omega.{arith}
use lib.Arith.{digits_div, digits_mod}
use lib.Bits.{bit_and, bit_or, bit_xor, and_step, or_step, xor_step, differ, block_half, block_odd}
use lib.Pow.{shr-shr}
use Rattle.mesh.specs.Tools.{bit, one}
use Rattle.mesh.proofs.Bits.{bit_of}
use Rattle.rows.specs.Row.{bit_at}

-- a digit is 0 or 1
pub digit : (P : ℕ → Type 0) → P 0 → P 1 → (x : ℕ) → x < 2 → P x
digit P z o zero h = z
digit P z o (suc zero) h = o
digit P z o (suc (suc x)) h = absurd (omega arith)

pub low_lt : (n : ℕ) → n % 2 < 2
low_lt n = omega arith

-- an operation that goes digit by digit
module _ (op d : ℕ → ℕ → ℕ) (step : (a b : ℕ) → op a b ≡ op (a / 2) (b / 2) * 2 + d (a % 2) (b % 2))
    (small : (x : ℕ) → x < 2 → (y : ℕ) → y < 2 → d x y < 2) where
  pub op_half : (a b : ℕ) → op a b / 2 ≡ op (a / 2) (b / 2)
  op_half a b = ap (λ (n : ℕ). n / 2) (step a b) ∙ digits_div (op (a / 2) (b / 2)) (small _ (low_lt a) _ (low_lt b))

  pub op_low : (a b : ℕ) → op a b % 2 ≡ d (a % 2) (b % 2)
  op_low a b = ap (λ (n : ℕ). n % 2) (step a b) ∙ digits_mod (op (a / 2) (b / 2)) (small _ (low_lt a) _ (low_lt b))

  module _ (f : Bool → Bool → Bool) (same : (x : ℕ) → x < 2 → (y : ℕ) → y < 2 → one (d x y) ≡ f (one x) (one y)) where
    pub op_at : (k a b : ℕ) → bit_at (op a b) k ≡ f (bit_at a k) (bit_at b k)
    unfolding bit_at
    op_at zero a b = rw (op_low a b) (same _ (low_lt a) _ (low_lt b))
    op_at (suc k) a b = rw (op_half a b) (op_at k (a / 2) (b / 2))

-- a statement of two digits
two : (P : ℕ → ℕ → Type 0) → P 0 0 → P 0 1 → P 1 0 → P 1 1 → (x : ℕ) → x < 2 → (y : ℕ) → y < 2 → P x y
two P a b c d = digit (λ x. (y : ℕ) → y < 2 → P x y) (digit (P 0) a b) (digit (P 1) c d)

pub at_and : (k a b : ℕ) → bit_at (bit_and a b) k ≡ bit_at a k && bit_at b k
at_and = op_at bit_and min and_step (two (λ x y. min x y < 2) (omega arith) (omega arith) (omega arith) (omega arith)) ◌&&◌
    (two (λ x y. one (min x y) ≡ one x && one y) refl refl refl refl)

pub at_or : (k a b : ℕ) → bit_at (bit_or a b) k ≡ bit_at a k || bit_at b k
at_or = op_at bit_or max or_step (two (λ x y. max x y < 2) (omega arith) (omega arith) (omega arith) (omega arith)) ◌||◌
    (two (λ x y. one (max x y) ≡ one x || one y) refl refl refl refl)

pub differ_lt : (x : ℕ) → x < 2 → (y : ℕ) → y < 2 → differ x y < 2
differ_lt = two (λ x y. differ x y < 2) (omega arith) (omega arith) (omega arith) (omega arith)

pub xor_half : (a b : ℕ) → bit_xor a b / 2 ≡ bit_xor (a / 2) (b / 2)
xor_half = op_half bit_xor differ xor_step differ_lt

pub xor_low : (a b : ℕ) → bit_xor a b % 2 ≡ differ (a % 2) (b % 2)
xor_low = op_low bit_xor differ xor_step differ_lt

-- a shift by one more
pub half_first : (n k : ℕ) → n / 2 ^ suc k ≡ n / 2 / 2 ^ k
half_first n k = sym (shr-shr n 1 k ∙ ap (λ i. n / 2 ^ i) (omega arith))

-- the bits below a digit, and those from one on
at_below : (m i n j : ℕ) → j < i → bit_at (m * 2 ^ i + n) j ≡ bit_at n j
unfolding bit_at
at_below m zero n j l = absurd (omega arith)
at_below m (suc i) n zero l = rw (block_odd m i n)
at_below m (suc i) n (suc j) l = rw (block_half m i n) (at_below m i (n / 2) j (omega arith))

pub at_after : (n i k : ℕ) → bit_at n (i + k) ≡ bit_at (n / 2 ^ i) k
unfolding bit_at
at_after n zero k = let e : n / 2 ^ 0 ≡ n = omega arith in rw (zero-add k, e)
at_after n (suc i) k = let e : suc i + k ≡ suc (i + k) = omega arith in rw (e, half_first n i) (at_after (n / 2) i k)

-- those of the lowest byte
pub at_byte : (n j : ℕ) → j < 8 → bit_at (n % 256) j ≡ bit_at n j
at_byte n j l =
    let e : n / 256 * 2 ^ 8 + n % 256 ≡ n = omega arith in
    sym (at_below (n / 256) 8 (n % 256) j l) ∙ ap (λ m. bit_at m j) e

-- a bit, as it is read
pub read_at : (n k : ℕ) → n / 2 ^ k % 2 ≡ bit (bit_at n k)
unfolding bit_at
read_at n zero = let e : n / 2 ^ 0 ≡ n = omega arith in rw e (bit_of (n % 2) (omega arith))
read_at n (suc k) = rw (half_first n k) (read_at (n / 2) k)
