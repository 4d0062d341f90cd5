-- `making::put_node` meets its contract: a faulty node has seven fixed bytes, a working one hears its neighbours' cells. Assumes nothing.
use mathlib.Core.Path.{◌≡◌, sym, ◌∙◌}
use native.Mathlib.Omega.{arith}
use lib.Dec.{T}
use lib.ListN.{get_or}
use Rattle.mesh.specs.Mesh.{number}
use Rattle.mesh.specs.Cells.{faulty_cell}
use Rattle.maps.proofs.Shelves.{in_order}
use Rattle.states.specs.Six.{Held}
use Rattle.states.proofs.Around.{held}
use Rattle.making.proofs.Made.{failed_done, working_done}
use Rattle.making.proofs.put_node.Goals as goal
use Rattle.making.proofs.put_node.Goals.{After-number-k}

-- the node's seven bytes are there
room : (n : After-number-k) → Held n.args.state.now n.number-k.result
room n =
    let s = n.args.shelf.now in
    held s.sizes n.args.state.now (record { sized = s.sized; long = n.requires.2.long }) n.number-k.result n.number-k.ensures.1

pub number-k-requires : goal.number-k-requires
number-k-requires c = (c.args.shelf.now.sized, c.requires.1)

pub bounds-shelf-k : goal.bounds-shelf-k
bounds-shelf-k c = omega (arith, c.number-k.ensures.1, c.args.shelf.now.whole)

pub put_bytes-requires : goal.put_bytes-requires
put_bytes-requires c = room (goal.at.put_bytes-requires c).After-number-k

pub around-heard-requires : goal.around-heard-requires
around-heard-requires c =
    let s = c.args.shelf.now in
    (s.sized, omega arith, omega (arith, s.whole), c.requires.1, c.number-k.ensures.0)

pub ruled-requires : goal.ruled-requires
ruled-requires c = (c.args.shelf.now.sized, c.requires.0)

pub put_bytes-requires-else-faulty_cell : goal.put_bytes-requires-else-faulty_cell
put_bytes-requires-else-faulty_cell c = room (goal.at.put_bytes-requires-else-faulty_cell c).After-number-k

pub returns-then-faulty_cell : goal.returns-then-faulty_cell
returns-then-faulty_cell c =
    let a = c.args in
    let s = a.shelf.now in
    let cells = s.cells.now in
    let e : c.number-k.result ≡ number s.sizes a.p = c.number-k.ensures.0 in
    let t : T (faulty_cell (get_or cells c.number-k.result 0)) = rw (sym c.faulty_cell.ensures ∙ c.if-faulty_cell.true) tt in
    rw (← e)
    (failed_done s.sizes cells a.o c.number-k.result a.state.now c.put_bytes.new.state (rw e c.requires.2) c.put_bytes.auto.state
    c.faulty_hears.result c.each.result.bytes c.faulty_hears.ensures c.each.ensures t c.put_bytes.ensures)

pub returns-else-faulty_cell : goal.returns-else-faulty_cell
returns-else-faulty_cell c =
    let a = c.args in
    let (told, bytes) = c.around-heard.ensures in
    let s = a.shelf.now in
    let e : c.number-k.result ≡ number s.sizes a.p = c.number-k.ensures.0 in
    rw (← e)
    (working_done s.sizes s.cells.now a.o c.number-k.result a.state.now c.put_bytes-else-faulty_cell.new.state (rw e c.requires.2) c.put_bytes-else-faulty_cell.auto.state
    (in_order s) c.number-k.ensures.1 (sym c.faulty_cell.ensures ∙ c.if-faulty_cell.false) c.around-heard.result.bytes c.ruled.result told bytes
    c.ruled.ensures c.put_bytes-else-faulty_cell.ensures)
