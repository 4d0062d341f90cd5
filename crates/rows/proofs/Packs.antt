-- Rows packed into numbers. Assumes nothing.
use mathlib.Core.Path.{◌≡◌, refl, ap, ◌∙◌}
use mathlib.Core.Bool.{Bool, true, false, ◌&&◌, not}
use Prim.Native.Nat.{ℕ, zero, suc, ◌+◌, ◌-◌, ◌*◌, ◌/◌, ◌%◌, ◌^◌, ◌<◌, ◌≤◌}
use native.Mathlib.Omega.{arith}
use native.Mathlib.Nat.{mul_assoc, pow-suc, add-zero}
use lib.Pow.{split, low, pow_mono}
use lib.Dec.{ltb, leb-suc-suc}
use borrow.Author.Tests.{lt-ltb, le-ltb}
use Rattle.mesh.specs.Tools.{bit}
use Rattle.mesh.proofs.Bits.{bit_one}
use Rattle.rows.specs.Row.{bit_at, swept, packed}
use Rattle.rows.proofs.Bits.{half_first}
use Rattle.rows.proofs.Carries.{swept_fails}

pub bit_lt : (b : Bool) → bit b < 2
bit_lt true = omega arith
bit_lt false = omega arith

pub packed_lt : (f : ℕ → Bool) (n : ℕ) → packed f n < 2 ^ n
unfolding packed
packed_lt f zero = omega arith
packed_lt f (suc n) = omega (arith, bit_lt (f 0), packed_lt (λ k. f (suc k)) n)

pub at_none : (k : ℕ) → bit_at 0 k ≡ false
unfolding bit_at
at_none zero = refl
at_none (suc k) = at_none k

-- its bits
pub at_packed : (f : ℕ → Bool) (n k : ℕ) → bit_at (packed f n) k ≡ ltb k n && f k
unfolding packed bit_at
at_packed f zero zero = refl
at_packed f zero (suc k) = rw (at_none k, le-ltb (suc k) 0 (omega arith))
at_packed f (suc n) zero =
    let e : (bit (f 0) + 2 * packed (λ k. f (suc k)) n) % 2 ≡ bit (f 0) = omega (arith, bit_lt (f 0)) in
    rw (e, lt-ltb 0 (suc n) (omega arith)) (bit_one (f 0))
at_packed f (suc n) (suc k) =
    let e : (bit (f 0) + 2 * packed (λ k. f (suc k)) n) / 2 ≡ packed (λ k. f (suc k)) n = omega (arith, bit_lt (f 0)) in
    rw (e, leb-suc-suc (suc k) n) (at_packed (λ k. f (suc k)) n k)

-- no bit above a row's width is ever set
pub none_beyond : (row from link : ℕ → Bool) (w k : ℕ) → w ≤ k → swept (bit_at (packed row w)) from link k ≡ false
none_beyond row from link w k h = swept_fails (bit_at (packed row w)) from link k (at_packed row w k ∙ rw (le-ltb k w h))

pub packed_same : (f g : ℕ → Bool) (n : ℕ) → ((k : ℕ) → k < n → f k ≡ g k) → packed f n ≡ packed g n
unfolding packed
packed_same f g zero e = refl
packed_same f g (suc n) e = rw (e 0 (omega arith), packed_same (λ k. f (suc k)) (λ k. g (suc k)) n (λ k l. e (suc k) (omega arith)))

-- the low bits of more
pub packed_low : (f : ℕ → Bool) (w n : ℕ) → w ≤ n → packed f n % 2 ^ w ≡ packed f w
unfolding packed
packed_low f zero n h = omega arith
packed_low f (suc w) zero h = absurd (omega arith)
packed_low f (suc w) (suc n) h =
    let p : ℕ = packed (λ k. f (suc k)) n in
    let i : p % 2 ^ w ≡ packed (λ k. f (suc k)) w = packed_low (λ k. f (suc k)) w n (omega arith) in
    let d : p / 2 ^ w * 2 ^ suc w ≡ p / 2 ^ w * 2 ^ w * 2 = rw (pow-suc, mul_assoc) in
    let e : bit (f 0) + 2 * p ≡ p / 2 ^ w * 2 ^ suc w + (bit (f 0) + 2 * packed (λ k. f (suc k)) w) = omega (arith, split p w) in
    ap (λ n. n % 2 ^ suc w) e ∙ low (p / 2 ^ w) (suc w) (packed_lt f (suc w))

-- twice eight
packed_parts : (f : ℕ → Bool) → packed f 8 + 256 * packed (λ k. f (8 + k)) 8 ≡ packed f 16
unfolding packed
packed_parts f = omega arith

pub packed_twice : (f g h : ℕ → Bool) → ((k : ℕ) → k < 8 → f k ≡ h k) → ((k : ℕ) → k < 8 → g k ≡ h (8 + k)) → packed f 8 + 256 * packed g 8 ≡ packed h 16
packed_twice f g h low high = rw (packed_same f h 8 low, packed_same g (λ k. h (8 + k)) 8 high) (packed_parts h)

-- the bits after the first s
packed_after : (f : ℕ → Bool) (s n m : ℕ) → m ≡ s + n → packed f m / 2 ^ s ≡ packed (λ k. f (s + k)) n
unfolding packed
packed_after f zero n m e =
    let q : packed f m / 2 ^ 0 ≡ packed f m = omega arith in
    let l : m ≡ n = omega arith in
    q ∙ packed_same f (λ k. f (0 + k)) m (λ k h. ap f (omega arith)) ∙ ap (packed (λ k. f (0 + k))) l
packed_after f (suc s) n zero e = absurd (omega arith)
packed_after f (suc s) n (suc m) e =
    let p : ℕ = packed (λ k. f (suc k)) m in
    let q : (bit (f 0) + 2 * p) / 2 ≡ p = omega (arith, bit_lt (f 0)) in
    half_first (bit (f 0) + 2 * p) s ∙ ap (λ n. n / 2 ^ s) q ∙ packed_after (λ k. f (suc k)) s n m (omega arith)
    ∙ packed_same (λ k. f (suc (s + k))) (λ k. f (suc s + k)) n (λ k h. ap f (omega arith))

-- those for which it does not hold
pub packed_not : (f : ℕ → Bool) (n : ℕ) → packed f n + packed (λ k. not (f k)) n + 1 ≡ 2 ^ n
unfolding packed
packed_not f zero = refl
packed_not f (suc n) = omega (arith, packed_not (λ k. f (suc k)) n, bit_not (f 0))
  where
    bit_not : (b : Bool) → bit b + bit (not b) ≡ 1
    bit_not true = refl
    bit_not false = refl

-- w of sixteen nodes, after the first s
pub some_of : (f g : ℕ → Bool) (x s w : ℕ) → x ≡ packed f 16 → ((k : ℕ) → k < w → f (s + k) ≡ g k) → s + w ≤ 16 → x / 2 ^ s % 2 ^ w ≡ packed g w
some_of f g x s w e on l =
    ap (λ n. n / 2 ^ s % 2 ^ w) e ∙ ap (λ n. n % 2 ^ w) (packed_after f s (16 - s) 16 (omega arith))
    ∙ packed_low (λ k. f (s + k)) w (16 - s) (omega arith) ∙ packed_same (λ k. f (s + k)) g w on

packed_front : (f : ℕ → Bool) (k n : ℕ) → bit (f k) + 2 * packed (λ i. f (suc k + i)) n ≡ packed (λ i. f (k + i)) (suc n)
unfolding packed
packed_front f k n = rw add-zero (ap (λ r. bit (f k) + 2 * r) (packed_same (λ i. f (suc k + i)) (λ i. f (k + suc i)) n (λ i l. ap f (omega arith))))

-- node by node: none; one more in front; all
module _ (f : ℕ → Bool) (w bits : ℕ) where
  pub few_none : packed f (w - w) ≡ 0
  unfolding packed
  few_none = let e : w - w ≡ 0 = omega arith in rw e

  pub few_lt : (n : ℕ) → bits ≡ packed f n → n < 16 → bits < 32768
  few_lt n e h =
      let k : n ≤ 15 = omega arith in
      omega (arith, packed_lt f n, pow_mono k)

  pub few_more : (k one : ℕ) → 0 < k → k ≤ w → bits ≡ packed (λ i. f (k + i)) (w - k) → one ≡ bit (f (k - 1))
      → bits * 2 + one ≡ packed (λ i. f (k - 1 + i)) (w - (k - 1))
  few_more zero one h l e o = absurd (omega arith)
  few_more (suc k) one h l e o =
      let p : suc k - 1 ≡ k = omega arith in
      let q : w - k ≡ suc (w - suc k) = omega arith in
      let o' : one ≡ bit (f k) = rw p at o in
      rw (p, q) (omega (arith, packed_front f k (w - suc k)))

  pub few_all : (k : ℕ) → k ≤ 0 → bits ≡ packed (λ i. f (k + i)) (w - k) → bits ≡ packed f w
  few_all zero h e =
      let q : w - 0 ≡ w = omega arith in
      (rw q at e) ∙ packed_same (λ i. f (0 + i)) f w (λ i l. ap f (omega arith))
  few_all (suc k) h e = absurd (omega arith)
