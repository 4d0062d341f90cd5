-- `sweeps::bits::sweep_rows` meets its contract: row after row. Assumes nothing.
use mathlib.Core.Path.{◌≡◌}
use Prim.Native.Nat.{◌+◌, ◌≤◌}
use lib.Dec.{eqb}
use Rattle.mesh.specs.Tools.{bit}
use Rattle.mesh.specs.Cells.{Map}
use Rattle.rows.specs.Box.{FaultyRows}
use Rattle.sweeps.specs.Sweep.{row_before, Over}
use Rattle.sweeps.proofs.bits.sweep_rows.Given as goal

abbrev pub invariant-loop-b : goal.invariant-loop-b
invariant-loop-b l = record {
  first : l.first ≡ bit (eqb (l.b + l.c) 0);
  before : l.last ≡ row_before l.rows l.b;
  over : (m : Map) → l.c ≤ l.fn.g.z.steps → FaultyRows m l.fn.g l.c l.fn.faulty → Over m l.fn.g l.c l.b l.initial.rows l.rows;
}
