-- Text as bytes: words, numbers in decimal, forms with numbers, and pieces one after another. Assumes nothing.
use Rattle.std.specs.Prelude.{true, false, cond, List, [], ◌∷◌, ◌++◌, ◌≡◌, ℕ, zero, suc, ◌+◌, ◌/◌, ◌%◌, ◌≤◌, eqb, ltb, length}
use Prim.Native.Char.{code}
use Prim.Native.String.{String, [] as none, ◌∷◌ as ◌then◌}
use Rattle.octets.specs.Stored.{stored}

-- the bytes of a word
abbrev pub ascii : String → List ℕ
ascii none = []
ascii (c then s) = code c ∷ ascii s

-- a number in decimal, without zeros in front: its last digit, after those of its tenth part. Twenty digits hold every number of 64 bits.
unfoldable pub decimal_within : ℕ → ℕ → List ℕ
decimal_within zero n = []
decimal_within (suc more) n = cond (ltb n 10) ((48 + n) ∷ []) (decimal_within more (n / 10) ++ (48 + n % 10) ∷ [])

abbrev pub decimal : ℕ → List ℕ
decimal n = decimal_within 20 n

-- a form with its numbers: each `%` gives way to the next number, in decimal; one without a number left stays
unfoldable pub told : List ℕ → List ℕ → List ℕ
told [] numbers = []
told (b ∷ form) [] = b ∷ told form []
told (b ∷ form) (n ∷ numbers) = elim (eqb b 37) [ true ↦ decimal n ++ told form numbers | false ↦ b ∷ told form (n ∷ numbers) ]

-- the line that names a file, after a word
abbrev pub name_line : List ℕ → List ℕ → List ℕ
name_line word path = word ++ path ++ ascii "\n"

-- f 0, f 1, .. f (n - 1), one after another
unfoldable pub pieces : (ℕ → List ℕ) → ℕ → List ℕ
pieces f zero = []
pieces f (suc n) = pieces f n ++ f n

-- `text` has been stored from `at` on, and `next` is the place after it
pub record Said (old : List ℕ) (at : ℕ) (text new : List ℕ) (next : ℕ) : Type 0 where
  pub place : next ≡ at + length text
  pub bytes : new ≡ stored old at text

-- a page that held `old` holds `text` after it, which takes no more than so much room
pub record Added (old text : List ℕ) (room : ℕ) (new : List ℕ) : Type 0 where
  pub text_is : new ≡ old ++ text
  pub in_room : length new ≤ length old + room
