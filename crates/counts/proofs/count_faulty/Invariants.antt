-- `counts::count_faulty` meets its contract: n of the first cells are of faulty nodes. Assumes nothing.
use mathlib.Core.Bool.{Bool}
use mathlib.Core.List.{List}
use Prim.Native.Nat.{ℕ}
use lib.ListN.{get_or}
use Rattle.mesh.specs.Cells.{faulty_cell}
use Rattle.counts.proofs.Tally.{Tally}
use Rattle.counts.proofs.count_faulty.Given as goal

abbrev pub is_faulty : List ℕ → ℕ → Bool
is_faulty cells k = faulty_cell (get_or cells k 0)

abbrev pub invariant-loop-cell : goal.invariant-loop-cell
invariant-loop-cell l = Tally (is_faulty l.cells) l.cell-index l.n
