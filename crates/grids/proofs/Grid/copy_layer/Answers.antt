-- `grids::Grid::copy_layer` meets its contract. The loop's invariant: the rows below `y` are copied. Assumes nothing.
use Rattle.grids.proofs.Layouts.{row_copied}
use Rattle.grids.proofs.Grid.copy_layer.Goals as goal

pub loop-y-preserved : goal.loop-y-preserved
loop-y-preserved c =
    let a = c.args in
    let l = c.loop-y in
    let r = c.row_of-row.ensures in
    λ old C.
    row_copied a.s a.self.now.cells old c.copy_row.new.table l.y a.z c.row_of-row.result.node l.table c.loop-y-test.true c.requires.1 r.first
    (l.invariant old C) (rw r.placed at c.copy_row.ensures)
