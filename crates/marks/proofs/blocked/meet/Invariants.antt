-- `marks::blocked::meet` meets its contract: what is joined is 0 only while no turn has found three faulty cells. Assumes nothing.
use Rattle.std.proofs.Common.{◌≡◌, length}
use Rattle.marks.specs.Stretches.{Apart}
use Rattle.marks.proofs.blocked.meet.Given as goal

abbrev pub invariant-loop-x : goal.invariant-loop-x
invariant-loop-x l = l.met ≡ 0 → Apart l.cells l.p l.q l.r (length l.yielded)
