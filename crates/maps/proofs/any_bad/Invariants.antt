-- `maps::any_bad` meets its contract: one cell more is looked at each turn. Assumes nothing.
use mathlib.Core.Path.{◌≡◌}
use lib.ListN.{get_or}
use Rattle.mesh.specs.Tools.{any}
use Rattle.mesh.specs.Cells.{bad_cell}
use Rattle.maps.proofs.any_bad.Given as goal

abbrev pub invariant-loop-k : goal.invariant-loop-k
invariant-loop-k l = l.bad ≡ any l.k (λ j. bad_cell l.s j (get_or l.cells j 0))
