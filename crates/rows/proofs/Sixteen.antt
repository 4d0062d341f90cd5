-- The bits of each byte of a word. One bit of each byte is taken by a mask; three sums without a carry bring those of two words together, and a second
-- mask takes away what the first sum puts between the pairs. Assumes nothing.
use mathlib.Core.Path.{◌≡◌, sym, ap, ◌∙◌}
use mathlib.Core.Bool.{Bool}
use Prim.Native.Nat.{ℕ, zero, suc, ◌+◌, ◌*◌, ◌/◌, ◌%◌, ◌^◌, ◌<◌, ◌≤◌}
use native.Mathlib.Omega.{arith}
use lib.Arith.{digits_mod}
use lib.Bits.{bit_and, and_block, and_mask, and_zero_r}
use lib.Pow.{split, shr-shr}
use Rattle.mesh.specs.Tools.{bit}
use Rattle.rows.specs.Row.{bit_at, packed}
use Rattle.rows.proofs.Bits.{read_at}
use Rattle.rows.proofs.Packs.{packed_lt}

-- n times: the masks of two bytes; two bits, sixteen from the next two
ones : ℕ → ℕ
ones zero = 0
ones (suc n) = (ones n * 256 + 1) * 256 + 1

threes : ℕ → ℕ
threes zero = 0
threes (suc n) = threes n * 65536 + 3

twos : (ℕ → Bool) → ℕ → ℕ
twos f zero = 0
twos f (suc n) = packed f 2 + 65536 * twos (λ k. f (2 + k)) n

-- the mask takes bit 0 of the lowest byte
lowest : (n m : ℕ) → bit_and n (m * 256 + 1) ≡ bit_and (n / 256) m * 256 + n % 2
lowest n m =
    let e : n % 256 % 2 ≡ n % 2 = omega arith in
    ap (λ i. bit_and i (m * 256 + 1)) (sym (split n 8)) ∙ and_block 8 (n / 256) m (n % 256) 1 (omega arith) (omega arith)
    ∙ ap (λ r. bit_and (n / 256) m * 256 + r) (and_mask (n % 256) 1 ∙ e)

lowest_le : (z n : ℕ) → bit_and z (ones n) % 128 ≤ 1
unfolding ones
lowest_le z zero = rw (and_zero_r z) (omega arith)
lowest_le z (suc n) = rw (lowest z (ones n * 256 + 1)) (omega arith)

-- the lowest two bytes: their bits come together, and what comes into the second is masked
pair : (v m a b : ℕ) → v % 128 ≤ 1 → a ≤ 1 → b ≤ 1 → let s = (v * 256 + b) * 256 + a in
    bit_and (s + s / 128) (m * 65536 + 3) ≡ a + 2 * b + 65536 * bit_and (v + v / 128) m
pair v m a b h ha hb =
    let s : ℕ = (v * 256 + b) * 256 + a in
    let r : ℕ = 512 * (v % 128) + 258 * b + a in
    let e : s + s / 128 ≡ (v + v / 128) * 65536 + r = omega arith in
    let l : r % 4 ≡ a + 2 * b = omega arith in
    ap (λ i. bit_and i (m * 65536 + 3)) e ∙ and_block 16 (v + v / 128) m r 3 (omega arith) (omega arith) ∙ omega (arith, and_mask r 2)

paired : (f : ℕ → Bool) (z n : ℕ) → ((k : ℕ) → z / 2 ^ (8 * k) % 2 ≡ bit (f k)) → let m = bit_and z (ones n) in bit_and (m + m / 128) (threes n) ≡ twos f n
unfolding ones threes twos packed
paired f z zero h = and_zero_r (bit_and z 0 + bit_and z 0 / 128)
paired f z (suc n) h =
    let q : z / 256 / 256 ≡ z / 65536 = omega arith in
    let v : ℕ = bit_and (z / 65536) (ones n) in
    let e : bit_and z (ones (suc n)) ≡ (v * 256 + z / 256 % 2) * 256 + z % 2 = lowest z (ones n * 256 + 1) ∙ rw (lowest (z / 256) (ones n), q) in
    ap (λ m. bit_and (m + m / 128) (threes (suc n))) e
    ∙ pair v (threes n) (z % 2) (z / 256 % 2) (lowest_le (z / 65536) n) (omega arith) (omega arith)
    ∙ omega (arith, h 0, h 1, paired (λ k. f (2 + k)) (z / 65536) n λ k. rw (shr-shr z 16 (8 * k), o k) (h (2 + k)))
  where
    o : (k : ℕ) → 16 + 8 * k ≡ 8 * (2 + k)
    o k = omega arith

-- four pairs; those of a word
abbrev pub four : (ℕ → Bool) → ℕ
four f = packed f 2 + 65536 * (packed (λ k. f (2 + k)) 2 + 65536 * (packed (λ k. f (4 + k)) 2 + 65536 * packed (λ k. f (6 + k)) 2))

pub pairs_of : (x j : ℕ) → let m = bit_and (x / 2 ^ j) 0x0101_0101_0101_0101 in bit_and (m + m / 128) 0x0003_0003_0003_0003 ≡ four (λ k. bit_at x (8 * k + j))
unfolding ones threes twos packed
pairs_of x j = paired (λ k. bit_at x (8 * k + j)) (x / 2 ^ j) 4 (λ k. rw (shr-shr x j (8 * k), o k) (read_at x (8 * k + j))) ∙ omega arith
  where
    o : (k : ℕ) → j + 8 * k ≡ 8 * k + j
    o k = omega arith

-- four numbers that are sixteen bits apart, each of two bits and two more eight above
joined : (a b c d : ℕ) → a ≤ 771 → b ≤ 771 → c ≤ 771 → d ≤ 771 → let m = a + 65536 * (b + 65536 * (c + 65536 * d)) in let n = m + m / 16384 in
    (n + n / 268435456) % 65536 ≡ a + 4 * b + 16 * c + 64 * d
joined a b c d ha hb hc hd =
    let m : ℕ = a + 65536 * (b + 65536 * (c + 65536 * d)) in
    let n : ℕ = m + m / 16384 in
    let q : ℕ = b + 4 * c + 65536 * (c + 4 * d) + 4294967296 * d + 16 * d in
    let l : a + 4 * b + 16 * c + 64 * d < 65536 = omega arith in
    let e : m / 16384 ≡ 4 * (b + 65536 * (c + 65536 * d)) = omega arith in
    let g : n / 268435456 ≡ 16 * (c + 4 * d) + 1048576 * d = omega arith in
    let s : n + n / 268435456 ≡ q * 65536 + (a + 4 * b + 16 * c + 64 * d) = omega arith in
    ap (λ i. i % 65536) s ∙ digits_mod q l

pub sixteen_of : (f g : ℕ → Bool) (x y : ℕ) → x ≡ four f → y ≡ four g → let m = x + y * 256 in let n = m + m / 16384 in
    (n + n / 268435456) % 65536 ≡ packed f 8 + 256 * packed g 8
unfolding packed
sixteen_of f g x y ex ey =
    let u : ℕ → ℕ = λ i. packed (λ k. f (i + k)) 2 + 256 * packed (λ k. g (i + k)) 2 in
    let e : x + y * 256 ≡ u 0 + 65536 * (u 2 + 65536 * (u 4 + 65536 * u 6)) = omega arith in
    ap (λ m. let n = m + m / 16384 in (n + n / 268435456) % 65536) e ∙ joined (u 0) (u 2) (u 4) (u 6) (small 0) (small 2) (small 4) (small 6) ∙ omega arith
  where
    small : (i : ℕ) → packed (λ k. f (i + k)) 2 + 256 * packed (λ k. g (i + k)) 2 ≤ 771
    small i = omega (arith, packed_lt (λ k. f (i + k)) 2, packed_lt (λ k. g (i + k)) 2)
