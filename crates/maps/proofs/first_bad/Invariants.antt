-- `maps::first_bad` meets its contract: k is the number of the node that the three loops are at, and no cell below k is bad.
-- Assumes nothing.
use mathlib.Core.Path.{◌≡◌}
use Prim.Native.Nat.{◌+◌, ◌-◌, ◌*◌, ◌≤◌}
use Rattle.mesh.specs.Cells.{bad_cell}
use Rattle.mesh.proofs.Answers.{NoneBelow}
use Rattle.maps.proofs.first_bad.Given as goal

abbrev pub invariant-loop-x : goal.invariant-loop-x
invariant-loop-x l = (l.x ≤ l.s.w) × (l.k ≡ l.x + l.s.w * (l.y + l.s.h * l.z)) × NoneBelow (bad_cell l.s) l.cells l.k

abbrev pub decreases-loop-x : goal.decreases-loop-x
decreases-loop-x l = l.s.w - l.x

abbrev pub invariant-loop-y : goal.invariant-loop-y
invariant-loop-y l = (l.y ≤ l.s.h) × (l.k ≡ l.s.w * (l.y + l.s.h * l.z)) × NoneBelow (bad_cell l.s) l.cells l.k

abbrev pub decreases-loop-y : goal.decreases-loop-y
decreases-loop-y l = l.s.h - l.y

abbrev pub invariant-scan : goal.invariant-scan
invariant-scan l = (l.z ≤ l.s.d) × (l.k ≡ l.s.w * (l.s.h * l.z)) × NoneBelow (bad_cell l.s) l.cells l.k

abbrev pub decreases-scan : goal.decreases-scan
decreases-scan l = l.s.d - l.z
