-- How the code reads a state: six bytes at once, without branches on what a byte holds. Assumes nothing.
use Rattle.std.specs.Prelude.{Bool, false, not, ◌&&◌, ◌||◌, List, [], ◌∷◌, ◌≡◌, ℕ, zero, suc, ◌+◌, ◌*◌, ◌/◌, ◌%◌, ◌<◌, ◌≤◌, eqb, length, get_or, Some, None, Option}
use Rattle.std.specs.Int.Bits.{bit_and, bit_or}
use Rattle.mesh.specs.Tools.{bit}
use Rattle.mesh.specs.Mesh.{X, Y, Z, InRange, number, place_of}
use Rattle.mesh.specs.Steps.{next, runs_down, reversed}
use Rattle.mesh.specs.Cells.{state_length}
use Rattle.rules.specs.Marks.{counted, rule, is_word}
use Rattle.mesh.specs.declared.Sizes.{Sizes}
use Rattle.talk.specs.State.{own}
use Rattle.mesh.specs.declared.Place.{Place}

-- what the checks have granted before a state is read
pub record Ready (S : Sizes) (s : List ℕ) : Type 0 where
  pub sized : InRange S
  pub long : length s ≡ state_length S

-- node k has its seven bytes in s
pub record Held (s : List ℕ) (k : ℕ) : Type 0 where
  pub low : k < 4096
  pub room : 7 * k + 7 ≤ length s

-- ---- one byte

-- what an own byte may be, and what a working node may have heard
unfoldable pub is_own : ℕ → Bool
is_own b = eqb b 1 || is_word b

unfoldable pub is_heard : ℕ → Bool
is_heard b = eqb b 8 || is_own b

-- the byte b is right where the neighbour shows n: b with the marks that n holds is n
unfoldable pub fits : ℕ → ℕ → Bool
fits n b = eqb (bit_or b (bit_and n 6)) n

-- a heard byte b blocks for the mark that is worth `part` in a byte: 2, useless, or 4, can't-reach
unfoldable pub hinders : ℕ → ℕ → Bool
hinders part b = not (eqb (bit_and b (part + 1)) 0)

-- ---- six bytes in one number

abbrev pub Bytes : (ℕ → ℕ) → Type 0
Bytes f = (j : ℕ) → f j < 256

-- n bytes, the first the lowest
unfoldable pub packed : ℕ → (ℕ → ℕ) → ℕ
packed zero f = 0
packed (suc n) f = packed n (λ j. f (suc j)) * 256 + f 0

-- a byte for each direction
abbrev pub six : (ℕ → ℕ) → ℕ
six f = packed 6 f

-- the bytes of a number, the lowest first
abbrev pub byte_at : ℕ → ℕ → ℕ
byte_at n zero = n % 256
byte_at n (suc j) = byte_at (n / 256) j

-- a 1 for each direction
abbrev pub ones : ℕ
ones = 1103823438081

-- n is c, but for a multiple of 255: so each byte of a number counts alike
infix 4 ◌is_but255◌
abbrev pub ◌is_but255◌ : ℕ → ℕ → Type 0
n is_but255 c = (e : ℕ) × (n ≡ c + 255 * e)

-- direction j is ahead on a counted axis
abbrev pub looks : Sizes → ℕ → ℕ → Bool
looks S o j = get_or
    (not (runs_down o X) ∷ runs_down o X ∷ not (runs_down o Y) ∷ runs_down o Y ∷ (not (runs_down o Z) && counted S Z) ∷ (runs_down o Z && counted S Z) ∷ [])
    j false

-- ---- one node

-- the mark rule, where `test part` says which bytes block for the mark that is worth `part`
abbrev pub rule_by : (ℕ → ℕ → Bool) → Sizes → ℕ → (ℕ → ℕ) → ℕ
rule_by test S o h = 2 * bit (rule S o λ j. test 2 (h j)) + 4 * bit (rule S (reversed o) λ j. test 4 (h j))

-- by the test above
unfoldable pub quick_rule : Sizes → ℕ → (ℕ → ℕ) → ℕ
quick_rule = rule_by hinders

-- in a list with `per` bytes for each node: node i has its first one there
pub record Laid (bytes : List ℕ) (per i : ℕ) : Type 0 where
  pub low : i < 4096
  pub room : per * i < length bytes

-- which byte that is
abbrev pub first_byte : List ℕ → ℕ → ℕ → ℕ
first_byte bytes per i = get_or bytes (per * i) 0

-- what node k reads of its neighbour in direction j, if it reads f i of node i; 8 where there is none
abbrev pub around_at : Sizes → (ℕ → ℕ) → Option Place → ℕ
around_at S f (Some q) = f (number S q)
around_at S f None = 8

unfoldable pub around : Sizes → (ℕ → ℕ) → ℕ → ℕ → ℕ
around S f k j = around_at S f (next S (place_of S k) j)

-- what that neighbour shows it: its own byte
abbrev pub shows : Sizes → List ℕ → ℕ → ℕ → ℕ
shows S s = around S (own s)
