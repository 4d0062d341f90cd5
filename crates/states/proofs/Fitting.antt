-- The test of a byte against what the neighbour shows is 01's: a word within the word that is shown. Assumes nothing.
use mathlib.Core.Path.{◌≡◌}
use mathlib.Core.Bool.{Bool, ◌&&◌}
use Prim.Native.Nat.{ℕ, ◌<◌}
use native.Mathlib.Omega.{arith}
use lib.Bits.{bit_and, bit_or, or_add_and, and_le_r, or_zero_r}
use lib.Dec.{T, eqb}
use Rattle.mesh.specs.Tools.{implies, all}
use Rattle.mesh.proofs.Tests.{T-and, T-implies, T-eq, T-all, bool_ext}
use Rattle.rules.specs.Marks.{has, is_word}
use Rattle.rules.proofs.Bytes.{word_cases}
use Rattle.talk.specs.Sound.{within}
use Rattle.states.specs.Six.{fits}

-- where a word is shown, a word within it: a byte that fits is no greater, and the rest is computed
fits_low : (n b : ℕ) → T (is_word n) → T (fits n b) → b < 7
unfolding fits
fits_low n b w t =
    let e : bit_or b (bit_and n 6) ≡ n = (T-eq (bit_or b (bit_and n 6)) n).0 t in
    let l : n < 7 = word_cases (λ n. n < 7) (omega arith) (omega arith) (omega arith) (omega arith) n w in
    omega (arith, or_add_and b (bit_and n 6), and_le_r b (bit_and n 6))

-- the two tests agree on the bytes up to 6
abbrev alike : ℕ → ℕ → Bool
alike n b = implies (fits n b) (is_word b && within b n) && implies (is_word b && within b n) (fits n b)

all_alike : (n : ℕ) → T (is_word n) → T (all 7 (alike n))
unfolding all fits is_word within has
all_alike = word_cases (λ n. T (all 7 (alike n))) tt tt tt tt

pub fits_word : (n b : ℕ) → T (is_word n) → fits n b ≡ is_word b && within b n
fits_word n b w = bool_ext (fits n b) (is_word b && within b n)
    (λ t. (T-implies (fits n b) (is_word b && within b n)).0 (at (fits_low n b w t)).0 t)
    (λ t. (T-implies (is_word b && within b n) (fits n b)).0 (at (word_low ((T-and (is_word b) (within b n)).0 t).0)).1 t)
  where
    at : b < 7 → T (implies (fits n b) (is_word b && within b n)) × T (implies (is_word b && within b n) (fits n b))
    at l = (T-and (implies (fits n b) (is_word b && within b n)) (implies (is_word b && within b n) (fits n b))).0
        ((T-all 7 (alike n)).0 (all_alike n w) b l)

    word_low : T (is_word b) → b < 7
    word_low = word_cases (λ b. b < 7) (omega arith) (omega arith) (omega arith) (omega arith) b

-- where 8 or 1 is shown, that byte alone is right
pub fits_bare : (n b : ℕ) → bit_and n 6 ≡ 0 → fits n b ≡ eqb b n
unfolding fits
fits_bare n b e = rw (e, or_zero_r b)
