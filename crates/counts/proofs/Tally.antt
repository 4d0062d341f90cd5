-- A loop that counts by bits: nothing yet, and one more; and tests that agree count the same. Assumes nothing.
use Rattle.std.proofs.Common.{◌≡◌, sym, ap, Bool, ℕ, ◌+◌, ◌≤◌, ◌<◌}
use native.Mathlib.Omega.{arith}
use Rattle.mesh.specs.Tools.{bit, count}
use Rattle.mesh.proofs.Bits.{bit_le}
use Rattle.mesh.proofs.Tables.{sum_none, sum_more, sum_same}

-- n is the count of the first k, so no more than k
pub record Tally (p : ℕ → Bool) (k n : ℕ) : Type 0 where
  pub few : n ≤ k
  pub is : n ≡ count k p

module _ (p : ℕ → Bool) where
  pub none : Tally p 0 0
  none = record { few = omega arith; is = sym (sum_none λ k. bit (p k)) }

  pub one_more : (k n b : ℕ) → Tally p k n → b ≡ bit (p k) → Tally p (k + 1) (n + b)
  one_more k n b t e = record { few = omega (arith, t.few, bit_le (p k)); is = omega (arith, t.is, sum_more k λ j. bit (p j)) }

pub count_same : (n : ℕ) (p q : ℕ → Bool) → ((k : ℕ) → k < n → p k ≡ q k) → count n p ≡ count n q
count_same n p q h = sum_same n (λ k. bit (p k)) (λ k. bit (q k)) λ k l. ap bit (h k l)
