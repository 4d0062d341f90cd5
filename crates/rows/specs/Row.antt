-- A row of nodes as one number: bit k says something of the node k steps on, so that a row that runs down is no other case. How the code works is
-- said in these words; no promise is. Assumes nothing.
use Rattle.std.specs.Prelude.{◌≡◌, Bool, true, false, ◌&&◌, ◌||◌, cond, List, ℕ, zero, suc, ◌+◌, ◌-◌, ◌*◌, ◌/◌, ◌%◌, ◌≤◌, ◌<◌, length, get_or}
use Rattle.mesh.specs.Tools.{bit, one}

-- bit k of n
unfoldable pub bit_at : ℕ → ℕ → Bool
bit_at n zero = one (n % 2)
bit_at n (suc k) = bit_at (n / 2) k

-- Swept: it may be passed, and is one to start from, or the node before it is swept and linked to it.
unfoldable pub swept : (ℕ → Bool) → (ℕ → Bool) → (ℕ → Bool) → ℕ → Bool
swept pass from link zero = pass 0 && from 0
swept pass from link (suc k) = pass (suc k) && (from (suc k) || (link (suc k) && swept pass from link k))

-- the number of n bits whose bit k is f k
unfoldable pub packed : (ℕ → Bool) → ℕ → ℕ
packed f zero = 0
packed f (suc n) = bit (f 0) + 2 * packed (λ k. f (suc k)) n

-- k steps from a node on, down or up; and bit j of the cell there
abbrev pub onwards : Bool → ℕ → ℕ → ℕ
onwards down from k = cond down (from - k) (from + k)

abbrev pub says : List ℕ → ℕ → Bool → ℕ → ℕ → Bool
says cells j down from k = bit_at (get_or cells (onwards down from k) 0) j

-- w nodes from one on, down or up, that all have a cell
pub record Span (cells : List ℕ) (down : Bool) (from w : ℕ) : Type 0 where
  pub starts : from < length cells
  pub low : down ≡ true → w ≤ from + 1
  pub high : down ≡ false → from + w ≤ length cells
