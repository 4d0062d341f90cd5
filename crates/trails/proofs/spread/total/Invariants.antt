-- `trails::spread::total` meets its contract: the sum of so many bits is no more than their number. Assumes nothing.
use mathlib.Core.Path.{◌≡◌}
use Prim.Native.Nat.{◌≤◌}
use lib.ListN.{get_or}
use Rattle.mesh.specs.Tools.{sum}
use Rattle.trails.proofs.spread.total.Given as goal

abbrev pub invariant-loop-byte : goal.invariant-loop-byte
invariant-loop-byte l = record {
  is : l.t ≡ sum l.byte-index (λ k. get_or l.out k 0);
  few : l.t ≤ l.byte-index;
}
