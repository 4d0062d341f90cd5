-- Bytes stored in a lent slice. Assumes nothing.
use Rattle.std.specs.Prelude.{List, ◌++◌, ℕ, ◌+◌, length, take, drop}

-- what was lent, with the bytes stored from a place on
abbrev pub stored : List ℕ → ℕ → List ℕ → List ℕ
stored out at bytes = take at out ++ bytes ++ drop (at + length bytes) out
