-- Numbers that are 0 or 1, and the tests that they stand for. Assumes nothing.
use mathlib.Core.Path.{◌≡◌, refl}
use mathlib.Core.Bool.{Bool, true, false, ◌&&◌, ◌||◌}
use Prim.Native.Nat.{ℕ, zero, suc, ◌≤◌}
use native.Mathlib.Omega.{arith}
use lib.Bits.{bit_and, bit_or}
use Rattle.mesh.specs.Tools.{bit, one}

pub bit_one : (b : Bool) → one (bit b) ≡ b
bit_one true = refl
bit_one false = refl

pub bit_of : (n : ℕ) → n ≤ 1 → n ≡ bit (one n)
bit_of zero h = refl
bit_of (suc zero) h = refl
bit_of (suc (suc n)) h = absurd (omega arith)

pub bit_le : (b : Bool) → bit b ≤ 1
bit_le true = omega arith
bit_le false = omega arith

pub bit_and_lem : (a b : Bool) → bit_and (bit a) (bit b) ≡ bit (a && b)
bit_and_lem true true = refl
bit_and_lem true false = refl
bit_and_lem false true = refl
bit_and_lem false false = refl

pub bit_or_lem : (a b : Bool) → bit_or (bit a) (bit b) ≡ bit (a || b)
bit_or_lem true true = refl
bit_or_lem true false = refl
bit_or_lem false true = refl
bit_or_lem false false = refl
