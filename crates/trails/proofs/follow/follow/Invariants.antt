-- `trails::follow::follow` meets its contract: the place is where the way has come to. Assumes nothing.
use mathlib.Core.Path.{◌≡◌}
use Rattle.mesh.specs.Mesh.{number}
use Rattle.mesh.specs.Fill.{Filled}
use Rattle.rows.specs.Box.{reach}
use Rattle.trails.specs.Table.{trail}
use Rattle.trails.proofs.follow.follow.Given as goal

abbrev pub invariant-loop-node : goal.invariant-loop-node
invariant-loop-node l = record {
  at : l.t ≡ trail l.g l.table l.node-index;
  written : Filled (λ j. j) (λ j. number l.s (reach l.g (trail l.g l.table j))) l.initial.node-items l.node-items l.node-index;
}
