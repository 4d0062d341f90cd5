-- `scans::row` meets its contract: the nodes so far pass their tests, and their words are counted but for a multiple of 255, of which there are
-- too few. Assumes nothing.
use mathlib.Core.Path.{◌≡◌}
use mathlib.Core.Bool.{true}
use Prim.Native.Nat.{◌+◌, ◌*◌, ◌≤◌}
use Rattle.mesh.specs.Tools.{all, sum}
use Rattle.states.specs.Six.{ones, ◌is_but255◌}
use Rattle.scans.specs.Scan.{node_test, node_news}
use Rattle.scans.proofs.row.Given as goal

abbrev pub invariant-loop-x : goal.invariant-loop-x
invariant-loop-x l = ((all l.x λ i. node_test l.s l.o l.state (i + l.s.w * l.row)) ≡ true)
    × (l.news is_but255 sum l.x λ i. node_news l.s l.state (i + l.s.w * l.row))
    × (l.news ≤ ones * l.x)
