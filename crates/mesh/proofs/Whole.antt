-- Small signed 32-bit numbers: what the machine computes with them is their sum and difference in ℤ.
-- Its tests tell the sign. `mag z` is z where z is not below 0, else -(z + 1). Assumes nothing.
use mathlib.Core.Path.{◌≡◌, refl, sym}
use mathlib.Core.Bool.{Bool, true, false, cond, true≢false}
use Prim.Native.Nat.{ℕ, zero, suc, ◌-◌, ◌<◌, ◌≤◌, ◌^◌}
use native.Mathlib.Omega.{arith}
use native.Mathlib.Nat.{add-zero, sub-zero}
use lib.IntN.{ℤ, pos, negsuc, ◌+ℤ◌, ◌-ℤ◌, sub_ℕ}
use lib.Signed.{mag, lt_z}
use lib.Dec.{ltb}
use borrow.Author.Tests.{lt-ltb, ltb-true, ltb-false, le-ltb}
use mir.Syntax.{w32}
use mir.Val.{SFits, to_z, of_z}
use mir.Facts.{to_z-of_z}

-- a number that is small and not below 0, as the machine reads it
pub to_z_pos : (n : ℕ) → n < 2 ^ 31 → to_z w32 n ≡ pos n
to_z_pos n h = rw (lt-ltb n (2 ^ 31) h)

pub small : {z : ℤ} → mag z < 4096 → SFits w32 z
small h = record { sfits = omega arith }

-- written and read again
pub back : (z : ℤ) → mag z < 4096 → to_z w32 (of_z w32 z) ≡ z
back z h = to_z-of_z (small h)

-- ---- the sign

pub below_zero : (z : ℤ) → lt_z z (pos 0) ≡ true → (k : ℕ) × (z ≡ negsuc k)
below_zero (pos n) e = let h = ltb-true n 0 e in absurd (omega arith)
below_zero (negsuc n) e = (n, refl)

pub not_below : (z : ℤ) → lt_z z (pos 0) ≡ false → (k : ℕ) × (z ≡ pos k)
not_below (pos n) e = (n, refl)
not_below (negsuc n) e = absurd (true≢false e)

pub above_zero : (z : ℤ) → lt_z (pos 0) z ≡ true → (k : ℕ) × (z ≡ pos (suc k))
above_zero (pos zero) e = let h = ltb-true 0 0 e in absurd (omega arith)
above_zero (pos (suc n)) e = (n, refl)
above_zero (negsuc n) e = absurd (true≢false (sym e))

pub level : (z : ℤ) → lt_z (pos 0) z ≡ false → lt_z z (pos 0) ≡ false → z ≡ pos 0
level (pos zero) e f = refl
level (pos (suc n)) e f = let h = ltb-false 0 (suc n) e in absurd (omega arith)
level (negsuc n) e f = absurd (true≢false f)

-- ---- sums: a coordinate and a step

pub mag_diff : (a b n : ℕ) → a < n → b ≤ n → mag (sub_ℕ a b) < n
mag_diff a b n ha hb = go (ltb a b) refl
  where
    go : (t : Bool) → ltb a b ≡ t → mag (cond t (negsuc (b - suc a)) (pos (a - b))) < n
    go true e = omega arith
    go false e = omega arith

pub mag_sum : (c : ℕ) (s : ℤ) → c < 16 → mag s < 16 → mag (pos c +ℤ s) < 4096
mag_sum c (pos k) hc hs = omega arith
mag_sum c (negsuc k) hc hs = let h = mag_diff c (suc k) 16 hc hs in omega arith

pub sum_is : (c : ℕ) (s : ℤ) → c < 16 → mag s < 16 → to_z w32 c +ℤ to_z w32 (of_z w32 s) ≡ pos c +ℤ s
sum_is c s hc hs = rw (to_z_pos c (omega arith), back s (omega arith))

pub sum_back : (c : ℕ) (s : ℤ) → c < 16 → mag s < 16 → to_z w32 (of_z w32 (to_z w32 c +ℤ to_z w32 (of_z w32 s))) ≡ pos c +ℤ s
sum_back c s hc hs = rw (sum_is c s hc hs) (back (pos c +ℤ s) (mag_sum c s hc hs))

-- ---- differences of coordinates

sub_pos : (a b : ℕ) → pos a -ℤ pos b ≡ sub_ℕ a b
sub_pos a zero = rw (add-zero, le-ltb a 0 (omega arith), sub-zero)
sub_pos a (suc b) = refl

pub diff_is : (a b : ℕ) → a < 16 → b < 16 → to_z w32 a -ℤ to_z w32 b ≡ sub_ℕ a b
diff_is a b ha hb = rw (to_z_pos a (omega arith), to_z_pos b (omega arith)) (sub_pos a b)
