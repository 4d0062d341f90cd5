-- `scans::scan` meets its contract: the rows so far are right and their words counted, and a row that is not right makes the state unsound.
-- Assumes nothing.
use mathlib.Core.Path.{◌≡◌}
use mathlib.Core.Bool.{true}
use Prim.Native.Nat.{◌*◌, ◌≤◌}
use Rattle.mesh.specs.Tools.{all, sum}
use Rattle.scans.specs.Scan.{row_test, row_news}
use Rattle.scans.proofs.scan.Given as goal

abbrev pub invariant-loop-at : goal.invariant-loop-at
invariant-loop-at l = (all l.at (row_test l.s l.o l.state) ≡ true) × (l.news ≡ sum l.at (row_news l.s l.state)) × (l.news ≤ 96 * l.at)
