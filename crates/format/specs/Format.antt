-- 01, "Map file": the bytes of a file, as written and as read. Assumes nothing.
use Rattle.std.specs.Prelude.{Bool, List, [], ◌∷◌, ◌++◌, ◌≡◌, ℕ, ◌+◌, ◌-◌, ◌≤◌, length, get_or, take, drop, eqb}
use Rattle.mesh.specs.Tools.{all}
use Rattle.mesh.specs.Mesh.{sizes, nodes}
use Rattle.mesh.specs.Order.{InOrder}
use Rattle.mesh.specs.declared.Sizes.{Sizes}
use Rattle.octets.specs.LittleEndian.{four_bytes, little_endian}

-- "the four bytes 46 4C 44 31 hexadecimal"
abbrev pub file_mark : List ℕ
file_mark = 0x46 ∷ 0x4C ∷ 0x44 ∷ 0x31 ∷ []

-- "a trailer of 12 bytes"; "The file is 12 to 65,536 bytes."
abbrev pub trailer_length : ℕ
trailer_length = 12

abbrev pub file_limit : ℕ
file_limit = 65536

-- "distance from the file's end back to the first cell (N + 12)"
abbrev pub distance : Sizes → ℕ
distance S = nodes S + trailer_length

-- "W, H, D, a zero byte, a little-endian 32-bit distance .., and the four bytes"
abbrev pub sizes_and_distance : Sizes → List ℕ
sizes_and_distance S = S.w ∷ S.h ∷ S.d ∷ 0 ∷ four_bytes (distance S)

unfoldable pub trailer : Sizes → List ℕ
trailer S = sizes_and_distance S ++ file_mark

-- "The writer writes no notes."
abbrev pub file_of : Sizes → List ℕ → List ℕ
file_of S cells = cells ++ trailer S

-- A file of the map S, cells: "Free notes may come first, then N cells, then a trailer."
pub record MapFile (S : Sizes) (cells file : List ℕ) : Type 0 where
  pub notes : List ℕ
  pub parts : file ≡ notes ++ file_of S cells
  pub fits : length file ≤ file_limit
  pub in_order : InOrder S cells

-- What a reader sees: byte i of the trailer, and what it says.
abbrev pub trailer_at : List ℕ → ℕ → ℕ
trailer_at file i = get_or file (length file - trailer_length + i) 0

unfoldable pub has_mark : List ℕ → Bool
has_mark file = all 4 λ i. eqb (trailer_at file (8 + i)) (get_or file_mark i 0)

abbrev pub sizes_in : List ℕ → Sizes
sizes_in file = sizes (trailer_at file 0) (trailer_at file 1) (trailer_at file 2)

abbrev pub distance_in : List ℕ → ℕ
distance_in file = little_endian (trailer_at file 4) (trailer_at file 5) (trailer_at file 6) (trailer_at file 7)

-- the N cells that end where the trailer begins
unfoldable pub cells_in : List ℕ → List ℕ
cells_in file = take (nodes (sizes_in file)) (drop (length file - distance (sizes_in file)) file)
