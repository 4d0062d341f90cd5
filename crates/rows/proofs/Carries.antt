-- The carries of an addition are the sweep of a row. Assumes nothing.
use mathlib.Core.Path.{◌≡◌, refl, ◌∙◌}
use mathlib.Core.Bool.{Bool, true, false, ◌&&◌, ◌||◌, cond}
use Prim.Native.Nat.{ℕ, zero, suc, ◌+◌, ◌/◌, ◌%◌, ◌<◌}
use native.Mathlib.Nat.{add-zero}
use native.Mathlib.Omega.{arith}
use lib.Bits.{bit_and, bit_or, bit_xor, differ, and_le_l, xor_lt}
use Rattle.mesh.specs.Tools.{one}
use Rattle.rows.specs.Row.{bit_at, swept}
use Rattle.rows.proofs.Bits.{digit, low_lt, at_and, at_or, xor_half, xor_low}

-- the carry into each bit of a + p, with c into the lowest
abbrev carries : ℕ → ℕ → ℕ → ℕ
carries c a p = bit_xor (bit_xor (a + p + c) a) p

-- the carry out of the lowest bit
abbrev out : ℕ → ℕ → ℕ → ℕ
out c a p = (a % 2 + p % 2 + c) / 2

three : (P : ℕ → ℕ → ℕ → Type 0) → P 0 0 0 → P 0 0 1 → P 0 1 0 → P 0 1 1 → P 1 0 0 → P 1 0 1 → P 1 1 0 → P 1 1 1
    → (x y z : ℕ) → x < 2 → y < 2 → z < 2 → P x y z
three P a b c d e f g h x y z hx hy hz =
    digit (λ x. P x y z) (digit (λ y. P 0 y z) (digit (P 0 0) a b z hz) (digit (P 0 1) c d z hz) y hy)
    (digit (λ y. P 1 y z) (digit (P 1 0) e f z hz) (digit (P 1 1) g h z hz) y hy) x hx

carries_low : (c a p : ℕ) → c < 2 → carries c a p % 2 ≡ c
carries_low c a p h =
    let e : (a + p + c) % 2 ≡ (a % 2 + p % 2 + c) % 2 = omega arith in
    rw (xor_low, xor_low, e)
    (three (λ x y z. differ (differ ((x + y + z) % 2) x) y ≡ z) refl refl refl refl refl refl refl refl (a % 2) (p % 2) c (low_lt a) (low_lt p) h)

carries_half : (c a p : ℕ) → carries c a p / 2 ≡ carries (out c a p) (a / 2) (p / 2)
carries_half c a p =
    let e : (a + p + c) / 2 ≡ a / 2 + p / 2 + (a % 2 + p % 2 + c) / 2 = omega arith in
    rw (xor_half, xor_half, e)

out_lt : (c a p : ℕ) → c < 2 → out c a p < 2
out_lt c a p h = omega arith

-- a carry goes on from two of three
abbrev most : Bool → Bool → Bool → Bool
most a p c = cond a (p || c) (p && c)

carry_on : (k c a p : ℕ) → c < 2 → bit_at (carries c a p) (suc k) ≡ most (bit_at a k) (bit_at p k) (bit_at (carries c a p) k)
unfolding bit_at
carry_on zero c a p h =
    rw (carries_half, carries_low c a p, carries_low (out c a p) (a / 2) (p / 2) (out_lt c a p h))
    (three (λ x y z. one ((x + y + z) / 2) ≡ most (one x) (one y) (one z)) refl refl refl refl refl refl refl refl (a % 2) (p % 2) c (low_lt a) (low_lt p) h)
carry_on (suc k) c a p h = rw carries_half (carry_on k (out c a p) (a / 2) (p / 2) (out_lt c a p h))

-- with the places to start from among those that may be passed
joins : (p f l c : Bool) → most (p && f) (p && (f || l)) c ≡ p && (f || (l && c))
joins true true l c = refl
joins true false l c = refl
joins false f l c = refl

alone : (p f l : Bool) → p && (f || (l && false)) ≡ p && f
alone true true l = refl
alone true false true = refl
alone true false false = refl
alone false f l = refl

-- What is added: the places to start from, and those that are then swept or hand on what comes from the place before.
abbrev seeds : ℕ → ℕ → ℕ
seeds pass from = bit_and pass from

abbrev lets : ℕ → ℕ → ℕ → ℕ
lets pass from link = bit_and pass (bit_or from link)

module _ (pass from link : ℕ) where
  abbrev total : ℕ
  total = seeds pass from + lets pass from link

  abbrev carried : ℕ
  carried = bit_xor (bit_xor total (seeds pass from)) (lets pass from link)

  none : carries 0 (seeds pass from) (lets pass from link) ≡ carried
  none = rw add-zero

  next : (k : ℕ) → bit_at carried (suc k) ≡ bit_at pass k && (bit_at from k || (bit_at link k && bit_at carried k))
  next k =
      (rw none at (carry_on k 0 (seeds pass from) (lets pass from link) (omega arith)))
      ∙ rw (at_and k pass from, at_and k pass (bit_or from link), at_or k from link) (joins (bit_at pass k) (bit_at from k) (bit_at link k) (bit_at carried k))

  pub sweeps : (k : ℕ) → bit_at (carried / 2) k ≡ swept (bit_at pass) (bit_at from) (bit_at link) k
  unfolding swept bit_at
  sweeps zero =
      let e : carried % 2 ≡ 0 = rw (← none) (carries_low 0 (seeds pass from) (lets pass from link) (omega arith)) in
      next 0 ∙ rw e (alone (bit_at pass 0) (bit_at from 0) (bit_at link 0))
  sweeps (suc k) = next (suc k) ∙ rw (sweeps k)

-- Half of the carries fits into the bits of what may be passed.
module _ (pass f : ℕ) (h : pass < 65536) (l : ℕ) where
  pub carries_fit : bit_xor (bit_xor (bit_and pass f + bit_and pass l) (bit_and pass f)) (bit_and pass l) / 2 < 65536
  carries_fit =
      let a : bit_and pass f < 131072 = omega (arith, and_le_l pass f) in
      let p : bit_and pass l < 131072 = omega (arith, and_le_l pass l) in
      let t : bit_and pass f + bit_and pass l < 131072 = omega (arith, and_le_l pass f, and_le_l pass l) in
      omega (arith, xor_lt 17 _ _ (xor_lt 17 _ _ t a) p)

-- no bit is set where none may be passed
pub swept_fails : (p f l : ℕ → Bool) (k : ℕ) → p k ≡ false → swept p f l k ≡ false
unfolding swept
swept_fails p f l zero e = rw e
swept_fails p f l (suc k) e = rw e
