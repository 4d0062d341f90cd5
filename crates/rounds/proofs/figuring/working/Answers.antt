-- `rounds::figuring::working` meets its contract: a node is faulty or works. Assumes nothing.
use native.Mathlib.Omega.{arith}
use Rattle.maps.proofs.Shelves.{in_order}
use Rattle.rounds.proofs.Figures.{workers_counted}
use Rattle.rounds.proofs.figuring.working.Goals as goal

pub overflow_sub-result : goal.overflow_sub-result
overflow_sub-result c =
    let s = c.args.shelf.now in
    omega (arith, c.nodes.ensures.0, c.count_faulty.ensures, workers_counted s.sizes s.cells.now (in_order s))

pub returns : goal.returns
returns c =
    let s = c.args.shelf.now in
    (omega (arith, c.nodes.ensures.0, c.count_faulty.ensures, workers_counted s.sizes s.cells.now (in_order s)), omega arith)
