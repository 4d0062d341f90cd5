-- 01, "Map file", as relations between what a caller lends and the numbers and bytes that it gets: what is promised of reading a file and of
-- writing one. proofs/Promise.antt shows that the definitions keep it, that nothing else does, and that reading gives back what was written.
-- `P else n` is a check, and checks `give` the number of the first that fails (mesh/specs/Order.antt). Assumes nothing.
use Rattle.std.specs.Prelude.{List, [], ◌∷◌, ◌++◌, ◌≢◌, ◌≡◌, ℕ, ◌+◌, ◌<◌, ◌≤◌, length, get_or, drop}
use Rattle.mesh.specs.Mesh.{InRange, nodes}
use Rattle.mesh.specs.Order.{Check, ◌else◌, ◌give◌, NoneBad, map_checks, NamesBad}
use Rattle.mesh.specs.declared.Sizes.{Sizes}
use Rattle.format.specs.Format.{file_mark, trailer_length, file_limit, distance, file_of, MapFile, trailer_at, sizes_in, distance_in, cells_in}

-- "length, mark and zero byte" are right
pub record Framed (file : List ℕ) : Type 0 where
  pub least : trailer_length ≤ length file
  pub fits : length file ≤ file_limit
  pub mark : (i : ℕ) → i < 4 → trailer_at file (8 + i) ≡ get_or file_mark i 0
  pub zero_byte : trailer_at file 3 ≡ 0

-- the distance is N + 12, and not beyond the file
pub record Reaches (file : List ℕ) : Type 0 where
  pub says : distance_in file ≡ distance (sizes_in file)
  pub inside : distance (sizes_in file) ≤ length file

-- "Reading a file: length, mark and zero byte (11), sizes (1), distance not N + 12 or beyond the file (11), room (3), cells (4)."
abbrev pub read_checks : List ℕ → ℕ → List Check
read_checks file room =
    Framed file else 11
    ∷ InRange (sizes_in file) else 1
    ∷ Reaches file else 11
    ∷ (nodes (sizes_in file) ≤ room) else 3
    ∷ NoneBad (sizes_in file) (cells_in file) else 4
    ∷ []

-- Writing: the map (1, 2, 4), and room for the file (3)
abbrev pub write_checks : Sizes → List ℕ → ℕ → List Check
write_checks S cells room = map_checks S cells ++ (distance S ≤ room) else 3 ∷ []

-- each of the list is below 256, as bytes are
abbrev pub Bytes : List ℕ → Type 0
Bytes l = (i : ℕ) → get_or l i 0 < 256

-- The bytes `old` are lent for a file's cells; a reading answers by its number, the bad cell and the sizes w, h, d, and leaves `new`.
pub record Reads (file old : List ℕ) (refusal bad w h d : ℕ) (new : List ℕ) : Type 0 where
  -- every refusal is given in its order and not otherwise, and 4 names the first bad cell;
  pub order : read_checks file (length old) give refusal
  pub names_bad : NamesBad (sizes_in file) (cells_in file) refusal bad
  -- the file of a map, notes and cells and trailer, is read where there is room; and what is read is the file of a map;
  pub read : {S : Sizes} {cells : List ℕ} → MapFile S cells file → nodes S ≤ length old → refusal ≡ 0
  pub of_a_map : refusal ≡ 0 → (S : Sizes) × (cells : List ℕ) × MapFile S cells file × (nodes S ≤ length old)
  -- then the sizes are that map's, its cells stand in front, and "longer outputs keep their remaining places";
  pub given : refusal ≡ 0 → {S : Sizes} {cells : List ℕ} → MapFile S cells file
      → (w ≡ S.w) × (h ≡ S.h) × (d ≡ S.d) × (new ≡ cells ++ drop (nodes S) old)
  -- and "a refusal returns .. 0 for every value", "no lent byte changes".
  pub nothing : refusal ≢ 0 → (w ≡ 0) × (h ≡ 0) × (d ≡ 0) × (new ≡ old)

-- The bytes `old` are lent for a file of the map S, cells; a writing answers by its number, the bad cell and a length n, and leaves `new`.
pub record Writes (S : Sizes) (cells old : List ℕ) (refusal bad n : ℕ) (new : List ℕ) : Type 0 where
  -- refusals likewise;
  pub order : write_checks S cells (length old) give refusal
  pub names_bad : NamesBad S cells refusal bad
  -- "a call that writes a file .. also returns its length", "the writer writes no notes";
  pub size : refusal ≡ 0 → n ≡ length (file_of S cells)
  pub written : refusal ≡ 0 → new ≡ file_of S cells ++ drop n old
  -- what it writes is a file of the map;
  pub a_file : refusal ≡ 0 → MapFile S cells (file_of S cells)
  -- and where it refuses, nothing is written.
  pub nothing : refusal ≢ 0 → (n ≡ 0) × (new ≡ old)
