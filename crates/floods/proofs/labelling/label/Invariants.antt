-- `floods::labelling::label` meets its contract. The loops' invariant: what is known at the next place. Assumes nothing.
use Prim.Native.Nat.{◌+◌, ◌*◌}
use Rattle.floods.proofs.Turns.{Turn}
use Rattle.floods.proofs.labelling.label.Given as goal

abbrev pub invariant-loop-at : goal.invariant-loop-at
invariant-loop-at l = Turn l.fn.grid.cells l.at l.n l.grid.cells l.found.records

abbrev pub invariant-loop-z : goal.invariant-loop-z
invariant-loop-z l = Turn l.fn.grid.cells (307 + 289 * l.z) l.n l.grid.cells l.found.records
