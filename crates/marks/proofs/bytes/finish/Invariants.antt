-- `marks::bytes::finish` meets its contract: turn i reads byte i, which no turn before it wrote. Assumes nothing.
use Rattle.marks.specs.Sweep.{Finished}
use Rattle.marks.proofs.bytes.finish.Given as goal

abbrev pub invariant-loop-i : goal.invariant-loop-i
invariant-loop-i l = Finished l.cells l.initial.out l.out l.i
