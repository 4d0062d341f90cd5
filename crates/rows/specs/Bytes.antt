-- Rows of bytes: eight as one word, and v added where a row of bits says so. How the code works is said in these words; no promise is. Assumes nothing.
use Rattle.std.specs.Prelude.{Bool, cond, List, ℕ, zero, suc, ◌+◌, ◌-◌, ◌*◌, ◌≤◌, ◌<◌, get_or}
use Rattle.mesh.specs.Tools.{bit}
use Rattle.mesh.specs.Fill.{Filled}
use Rattle.rows.specs.Row.{bit_at, onwards}

-- n bytes as one number, the first of them its lowest
unfoldable pub joined : (ℕ → ℕ) → ℕ → ℕ
joined f zero = 0
joined f (suc n) = f 0 + 256 * joined (λ k. f (suc k)) n

-- of eight nodes from one on, down or up, the k-th in the order of their numbers is so many steps on
abbrev pub turned : Bool → ℕ → ℕ
turned down k = cond down (7 - k) k

-- each of w nodes from one on, down or up, has a byte to which v can be added
abbrev pub Takes : List ℕ → Bool → ℕ → ℕ → ℕ → Type 0
Takes out down from w v = (k : ℕ) → k < w → get_or out (onwards down from k) 0 + v ≤ 255

-- v is added to the bytes of those of w nodes from one on, down or up, whose bit is 1
abbrev pub Added : List ℕ → List ℕ → Bool → ℕ → ℕ → ℕ → ℕ → Type 0
Added out out' down from w bits v = Filled (λ k. onwards down from k) (λ k. get_or out (onwards down from k) 0 + v * bit (bit_at bits k)) out out' w
