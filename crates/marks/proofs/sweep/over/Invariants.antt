-- `marks::sweep::over` meets its contract: row after row. Assumes nothing.
use mathlib.Core.Path.{◌≡◌}
use Rattle.maps.specs.Shelf.{map_on}
use Rattle.marks.specs.Sweep.{row_before, Over}
use Rattle.marks.proofs.Rows.{AsFaulty}
use Rattle.marks.proofs.sweep.over.Given as goal

abbrev pub invariant-loop-b : goal.invariant-loop-b
invariant-loop-b l = record {
  before : l.last ≡ row_before l.rows l.b;
  over : Over (map_on l.fn.shelf) l.fn.g l.c l.initial.rows l.rows l.b;
  none : l.stuck ≡ 0 → AsFaulty l.dead-items l.rows l.b;
}
