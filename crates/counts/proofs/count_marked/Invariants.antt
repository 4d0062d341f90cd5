-- `counts::count_marked` meets its contract: n of the first bytes have the mark. Assumes nothing.
use mathlib.Core.Bool.{Bool}
use mathlib.Core.List.{List}
use Prim.Native.Nat.{ℕ, ◌/◌, ◌%◌}
use lib.Dec.{eqb}
use lib.ListN.{get_or}
use Rattle.counts.proofs.Tally.{Tally}
use Rattle.counts.proofs.count_marked.Given as goal

abbrev pub marked : List ℕ → ℕ → ℕ → Bool
marked marks mark k = eqb (get_or marks k 0 / mark % 2) 1

abbrev pub invariant-loop-byte : goal.invariant-loop-byte
invariant-loop-byte l = Tally (marked l.marks l.mark) l.byte-index l.n
