-- `mapfile::reader::has_mark` meets its contract: below i the bytes of the mark have been found. Assumes nothing.
use mathlib.Core.Path.{◌≡◌}
use Prim.Native.Nat.{ℕ, ◌+◌, ◌<◌}
use lib.ListN.{get_or}
use Rattle.format.specs.Format.{file_mark, trailer_at}
use Rattle.mapfile.proofs.reader.has_mark.Given as goal

abbrev pub invariant-loop-i : goal.invariant-loop-i
invariant-loop-i l = (k : ℕ) → k < l.i → trailer_at l.file (8 + k) ≡ get_or file_mark k 0
