-- `components::entry::settle` meets its contract: the refusals in their order, and then the table. Assumes nothing.
use Prim.Native.Nat.{◌≤◌}
use native.Mathlib.Omega.{arith}
use borrow.Author.Tests.{lt-leb, le-leb}
use lib.ListN.{length}
use Rattle.mesh.specs.Mesh.{nodes}
use Rattle.mesh.specs.declared.Refusal.TheVariants.{NoRoom}
use Rattle.components.proofs.Outcomes.{answered_refused, answered_granted}
use Rattle.components.proofs.entry.settle.Goals as goal
use Rattle.components.proofs.entry.settle.Goals.{Else-table-nodes}

-- there is room for the table
fits : (c : Else-table-nodes) → let a = c.args in nodes a.s ≤ length a.table.now
fits c = omega (arith, c.if-table-nodes.false, c.nodes.ensures.0)

pub nodes-requires : goal.nodes-requires
nodes-requires c = c.requires c.in_ok-checked.was

pub returns-then-table-nodes : goal.returns-then-table-nodes
returns-then-table-nodes c =
    let a = c.args in
    answered_refused a.s a.checked a.grid.now.cells a.count a.room a.table.now NoRoom
    (rw (c.in_ok-checked.was, lt-leb (nodes a.s) (length a.table.now) (omega (arith, c.if-table-nodes.true, c.nodes.ensures.0))))

pub copy_out-requires : goal.copy_out-requires
copy_out-requires c =
    (c.requires c.in_ok-checked.was, fits (goal.at.copy_out-requires c).Else-table-nodes)

pub returns : goal.returns
returns c =
    let a = c.args in
    answered_granted a.s a.checked a.grid.now.cells a.count a.room a.table.now c.copy_out.new.table
    (rw (c.in_ok-checked.was, le-leb (nodes a.s) (length a.table.now) (fits (goal.at.returns c).Else-table-nodes), le-leb a.count a.room (omega arith)))
    c.copy_out.ensures
