-- Four bytes and their number undo each other. Assumes nothing.
use Rattle.std.proofs.Common.{◌≡◌, ℕ, ◌<◌, ◌/◌, ◌%◌, [], ◌∷◌, refl, rules, arith}
use Rattle.std.proofs.lemmas.Nat.{le_bytes_4, from_le_bytes-to_le_bytes_4}
use Rattle.octets.specs.LittleEndian.{four_bytes, little_endian}

pub bytes_of : (a b c d : ℕ) → a < 256 → b < 256 → c < 256 → d < 256 → four_bytes (little_endian a b c d) ≡ a ∷ b ∷ c ∷ d ∷ []
bytes_of a b c d ha hb hc hd = le_bytes_4 (a ∷ b ∷ c ∷ d ∷ []) (little_endian a b c d) refl (search rules) (omega arith)

pub number_back : (n : ℕ) → n < 4294967296 → little_endian (n % 256) (n / 256 % 256) (n / 65536 % 256) (n / 16777216 % 256) ≡ n
number_back n h = omega (arith, from_le_bytes-to_le_bytes_4 n h)
