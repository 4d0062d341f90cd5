-- What the code asks of six bytes at once: what it finds is what the definitions ask of each byte. Assumes nothing.
use mathlib.Core.Path.{◌≡◌, refl, sym, ap, ap₂, ◌∙◌}
use mathlib.Core.Bool.{Bool, true, false, not, ◌&&◌}
use Prim.Native.Nat.{ℕ, zero, suc, ◌+◌, ◌-◌, ◌*◌, ◌/◌, ◌%◌, ◌^◌, ◌<◌, ◌≤◌}
use native.Mathlib.Omega.{arith}
use native.Mathlib.Nat.{mod-lt, mul-one, mul-zero}
use lib.Bits.{bit_and, bit_or, bit_xor, and_le_r, and_zero_r, or_lt, xor_lt}
use lib.Dec.{T, eqb}
use Rattle.std.specs.Prelude.{[], ◌∷◌, slice_index}
use Rattle.mesh.specs.Tools.{bit, implies, all}
use Rattle.mesh.specs.Mesh.{X, Y, Z, InRange}
use Rattle.mesh.specs.Steps.{runs_down, along}
use Rattle.rules.specs.Marks.{counted, rule}
use Rattle.mesh.specs.declared.Sizes.{Sizes}
use Rattle.mesh.proofs.Bits.{bit_le, bit_and_lem}
use Rattle.mesh.proofs.Tests.{T-eq, T-all, all_same}
use Rattle.states.specs.Six.{Bytes, packed, six, byte_at, ones, looks, hinders, quick_rule}
use Rattle.states.proofs.Quick.{all_axes, rule_axes, rule_six}
use Rattle.states.proofs.Packed.{packed_same, same_packed, packed_eq, packed_and, packed_or, packed_add, packed_mul, packed_le, six_ones}

-- six bytes are below 2 to the 48
pub six_lt : (f : ℕ → ℕ) → Bytes f → six f < 2 ^ 48
six_lt f b = omega (arith, packed_le 6 f (λ j. 255) (λ j. omega (arith, b j)), six_ones 255)

pub or_small : (a b : ℕ) → a < 2 ^ 48 → b < 2 ^ 48 → bit_or a b < 2 ^ 48
or_small = or_lt 48

pub xor_small : (a b : ℕ) → a < 2 ^ 48 → b < 2 ^ 48 → bit_xor a b < 2 ^ 48
xor_small = xor_lt 48

-- and every number below that is six bytes, its own
pub byte_lt : (n : ℕ) → Bytes (byte_at n)
byte_lt n zero = mod-lt n (omega arith)
byte_lt n (suc j) = byte_lt (n / 256) j

pub six_bytes : (n : ℕ) → n < 2 ^ 48 → six (byte_at n) ≡ n
unfolding packed
six_bytes n l = omega arith

pub bytes_six : (n : ℕ) (f : ℕ → ℕ) → Bytes f → n ≡ six f → (j : ℕ) → j < 6 → byte_at n j ≡ f j
bytes_six n f b e = same_packed 6 (byte_at n) f (byte_lt n) b (six_bytes n (rw e (six_lt f b)) ∙ e)

-- so what is asked of the bytes of a number is asked of the bytes that it was put together from
pub quick_six : (S : Sizes) (o n : ℕ) (f : ℕ → ℕ) → Bytes f → n ≡ six f → quick_rule S o (byte_at n) ≡ quick_rule S o f
unfolding quick_rule
quick_six S o n f b e = rule_six hinders S o (byte_at n) f (bytes_six n f b e)

pub bits_six : (n : ℕ) (f : ℕ → ℕ) → Bytes f → n ≡ six f → six (λ j. bit (not (eqb (byte_at n j) 0))) ≡ six λ j. bit (not (eqb (f j) 0))
bits_six n f b e = packed_same 6 (λ j. bit (not (eqb (byte_at n j) 0))) (λ j. bit (not (eqb (f j) 0)))
    (λ j l. ap (λ (v : ℕ). bit (not (eqb v 0))) (bytes_six n f b e j l))

-- ---- the directions ahead

bit_of : (r : ℕ) → r < 2 → (bit (eqb r 1) ≡ r) × (bit (not (eqb r 1)) ≡ 1 - r)
bit_of zero h = (refl, refl)
bit_of (suc zero) h = (refl, refl)
bit_of (suc (suc r)) h = absurd (omega arith)

module _ (S : Sizes) (o : ℕ) where
  abbrev e : ℕ → ℕ
  e j = bit (looks S o j)

  pub looks_six : (u v : ℕ) → u ≡ bit (counted S Z) → v ≡ bit (counted S Z)
      → six (slice_index ((1 - o % 2) ∷ (o % 2) ∷ (1 - o / 2 % 2) ∷ (o / 2 % 2) ∷ bit_and (1 - o / 4 % 2) u ∷ bit_and (o / 4 % 2) v ∷ [])) ≡ six e
  unfolding packed
  looks_six u v eu ev =
      let (x, x') = bit_of (o % 2) (mod-lt o (omega arith)) in
      let (y, y') = bit_of (o / 2 % 2) (mod-lt (o / 2) (omega arith)) in
      let (z, z') = bit_of (o / 4 % 2) (mod-lt (o / 4) (omega arith)) in
      let up : bit_and (1 - o / 4 % 2) u ≡ bit (not (runs_down o Z) && counted S Z) =
      ap₂ bit_and (sym z') eu ∙ bit_and_lem (not (runs_down o Z)) (counted S Z) in
      let down : bit_and (o / 4 % 2) v ≡ bit (runs_down o Z && counted S Z) = ap₂ bit_and (sym z) ev ∙ bit_and_lem (runs_down o Z) (counted S Z) in
      omega arith

  pub looks_le : six e ≤ ones
  looks_le = omega (arith, packed_le 6 e (λ j. 1) (λ j. bit_le (looks S o j)), six_ones 1)

  -- the rule asks each of them
  on_axis_lem : (t : Bool) (b : Bool → Bool) → implies (not t) (b false) && implies t (b true) ≡ b t
  on_axis_lem true b = refl
  on_axis_lem false b = go (b false)
    where
      go : (x : Bool) → x && true ≡ x
      go true = refl
      go false = refl

  if_counted : (t c : Bool) (b : Bool → Bool) → implies (not t && c) (b false) && implies (t && c) (b true) ≡ implies c (b t)
  if_counted true true b = refl
  if_counted true false b = refl
  if_counted false true b = on_axis_lem false b
  if_counted false false b = refl

  pub looks_rule : InRange S → (b : ℕ → Bool) → all 6 (λ j. implies (looks S o j) (b j)) ≡ rule S o b
  looks_rule r b =
      all_axes (λ j. implies (looks S o j) (b j))
      ∙ ap₂ ◌&&◌
      (ap₂ ◌&&◌ (on_axis_lem (runs_down o X) λ t. b (along X t)) (on_axis_lem (runs_down o Y) λ t. b (along Y t)))
      (if_counted (runs_down o Z) (counted S Z) λ t. b (along Z t))
      ∙ sym (rule_axes S r o b)

-- ---- which bytes block

-- 7 is added to what is looked at: the byte reaches 8 unless it is 0
reaches : (g : ℕ) → g < 6 → eqb (bit_and (g + 7) 8) 8 ≡ not (eqb g 0)
reaches zero h = refl
reaches (suc zero) h = refl
reaches (suc (suc zero)) h = refl
reaches (suc (suc (suc zero))) h = refl
reaches (suc (suc (suc (suc zero)))) h = refl
reaches (suc (suc (suc (suc (suc zero))))) h = refl
reaches (suc (suc (suc (suc (suc (suc g)))))) h = absurd (omega arith)

byte_blocks : (part b : ℕ) → part ≤ 4 → (t : Bool) → eqb (bit_and (bit_and b ((part + 1) * bit t) + (8 - bit t)) 8) 8 ≡ implies t (hinders part b)
unfolding hinders
byte_blocks part b l true = rw (mul-one (part + 1)) (reaches (bit_and b (part + 1)) (omega (arith, and_le_r b (part + 1))))
byte_blocks part b l false = rw (mul-zero (part + 1), and_zero_r b)

module _ (S : Sizes) (r : InRange S) (o part : ℕ) (l : part ≤ 4) (h : ℕ → ℕ) (bh : Bytes h) where
  part_byte : Bytes λ j. (part + 1) * e S o j
  part_byte j = go (looks S o j)
    where
      go : (t : Bool) → (part + 1) * bit t < 256
      go true = omega arith
      go false = omega arith

  abbrev seen : ℕ → ℕ
  seen j = bit_and (h j) ((part + 1) * e S o j) + (8 - e S o j)

  seen_byte : Bytes seen
  seen_byte j = go (looks S o j)
    where
      go : (t : Bool) → bit_and (h j) ((part + 1) * bit t) + (8 - bit t) < 256
      go true = omega (arith, and_le_r (h j) ((part + 1) * 1))
      go false = omega (arith, and_le_r (h j) ((part + 1) * 0))

  rests : six (λ j. 8 - e S o j) ≡ 8 * ones - six (e S o)
  rests =
      let whole : six (λ j. 8 - e S o j) + six (e S o) ≡ six (λ j. 8) =
      packed_add 6 (λ j. 8 - e S o j) (e S o) ∙ packed_same 6 (λ j. 8 - e S o j + e S o j) (λ j. 8) (λ j _. omega (arith, bit_le (looks S o j))) in
      omega (arith, six_ones 8)

  seen_six : bit_and (six h) ((part + 1) * six (e S o)) + (8 * ones - six (e S o)) ≡ six seen
  seen_six = rw (packed_mul 6 (part + 1) (e S o), packed_and 6 h (λ j. (part + 1) * e S o j) bh part_byte, sym rests)
      (packed_add 6 (λ j. bit_and (h j) ((part + 1) * e S o j)) (λ j. 8 - e S o j))

  blocked_rule : eqb (bit_and (six seen) (8 * ones)) (8 * ones) ≡ rule S o λ j. hinders part (h j)
  blocked_rule =
      rw (sym (six_ones 8), packed_and 6 seen (λ j. 8) seen_byte (λ j. omega arith))
      (packed_eq 6 (λ j. bit_and (seen j) 8) (λ j. 8) (λ j. omega (arith, and_le_r (seen j) 8)) (λ j. omega arith))
      ∙ all_same 6 (λ j. eqb (bit_and (seen j) 8) 8) (λ j. implies (looks S o j) (hinders part (h j))) (λ j _. byte_blocks part (h j) l (looks S o j))
      ∙ looks_rule S o r (λ j. hinders part (h j))

  -- for the numbers that the code has found
  pub stuck_is : (x y : ℕ) → x ≡ six h → y ≡ six (e S o)
      → eqb (bit_and (bit_and x ((part + 1) * y) + (8 * ones - y)) (8 * ones)) (8 * ones) ≡ rule S o λ j. hinders part (h j)
  stuck_is x y ex ey = rw (ex, ey, seen_six) blocked_rule

-- ---- which bytes are not 0

abbrev tops : ℕ → ℕ
tops b = bit_and (bit_or (bit_and b 127 + 127) b) 128

all_tops : T (all 256 λ b. eqb (tops b) (128 * bit (not (eqb b 0))))
unfolding all
all_tops = tt

pub some_six : (h : ℕ → ℕ) → Bytes h
    → bit_and (bit_or (bit_and (six h) (127 * ones) + 127 * ones) (six h)) (128 * ones) / 128 ≡ six λ j. bit (not (eqb (h j) 0))
some_six h bh =
    let low : Bytes λ j. bit_and (h j) 127 + 127 = λ j. omega (arith, and_le_r (h j) 127) in
    let high : Bytes λ j. bit_or (bit_and (h j) 127 + 127) (h j) = λ j. or_lt 8 (bit_and (h j) 127 + 127) (h j) (low j) (bh j) in
    let e : bit_and (bit_or (bit_and (six h) (127 * ones) + 127 * ones) (six h)) (128 * ones) ≡ six λ j. 128 * bit (not (eqb (h j) 0)) =
    rw (
      sym (six_ones 127),
      sym (six_ones 128),
      packed_and 6 h (λ j. 127) bh (λ j. omega arith),
      packed_add 6 (λ j. bit_and (h j) 127) (λ j. 127),
      packed_or 6 (λ j. bit_and (h j) 127 + 127) h low bh,
      packed_and 6 (λ j. bit_or (bit_and (h j) 127 + 127) (h j)) (λ j. 128) high (λ j. omega arith),
    ) (packed_same 6 (λ j. tops (h j)) (λ j. 128 * bit (not (eqb (h j) 0)))
    (λ j _. (T-eq (tops (h j)) (128 * bit (not (eqb (h j) 0)))).0
    ((T-all 256 (λ b. eqb (tops b) (128 * bit (not (eqb b 0))))).0 all_tops (h j) (bh j)))) in
    ap (λ (n : ℕ). n / 128) (e ∙ sym (packed_mul 6 128 λ j. bit (not (eqb (h j) 0)))) ∙ omega arith
