-- `rows::layer::add_layer` meets its contract: row after row. Assumes nothing.
use Rattle.rows.specs.Box.{AddedRows}
use Rattle.rows.proofs.layer.add_layer.Given as goal

abbrev pub invariant-loop-b : goal.invariant-loop-b
invariant-loop-b l = AddedRows l.s l.g l.c l.v l.rows l.initial.out l.out l.b
