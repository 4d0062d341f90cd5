-- `trails::follow::lay` meets its contract. Assumes nothing.
use lib.ListN.{get_or}
use Rattle.mesh.specs.Fill.{Filled}
use Rattle.trails.proofs.follow.lay.Given as goal
use Prim.Native.Nat.{◌+◌, ◌*◌}

abbrev pub invariant-loop-b : goal.invariant-loop-b
invariant-loop-b l = Filled (λ b. 16 * l.c + b) (λ b. get_or l.rows b 0) l.initial.table l.table l.b
