-- `grids::Grid::lay_layer` meets its contract. The loop's invariant: the rows below `y` are laid. Assumes nothing.
use mathlib.Core.Path.{subst}
use Prim.Native.Nat.{ℕ, ◌+◌, ◌*◌}
use native.Mathlib.Omega.{arith}
use Rattle.grids.specs.Layout.{Laid}
use Rattle.grids.proofs.Layouts.{row_laid, layer_laid}
use Rattle.grids.proofs.Grid.lay_layer.Goals as goal

pub loop-y-preserved : goal.loop-y-preserved
loop-y-preserved c =
    let a = c.args in
    let l = c.loop-y in
    let r = c.row_of-row.ensures in
    row_laid a.s a.marks.now c.requires.0 l.self.cells l.y a.z c.row_of-row.result.node c.lay_row.new.grid c.loop-y-test.true c.requires.1 r.first
    l.invariant (rw r.placed at c.lay_row.ensures)

pub returns : goal.returns
returns c =
    let a = c.args in
    let l = c.loop-y in
    layer_laid a.s a.marks.now c.requires.0 l.self.cells a.z
    (subst (λ (n : ℕ). Laid a.s a.marks.now (307 + (17 * n + 289 * a.z)) l.self.cells) (omega arith) l.invariant)
