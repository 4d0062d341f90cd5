-- `grids::Grid::lay` meets its contract. The loop's invariant: the layers below `z` are laid. Assumes nothing.
use mathlib.Core.Path.{subst}
use Prim.Native.Nat.{ℕ, ◌+◌, ◌*◌}
use native.Mathlib.Omega.{arith}
use Rattle.grids.specs.Layout.{Laid}
use Rattle.grids.proofs.Layouts.{laid_none, all_laid}
use Rattle.grids.proofs.Grid.lay.Goals as goal

pub loop-z-init : goal.loop-z-init
loop-z-init c = laid_none c.args.s c.args.marks.now c.args.self.now.cells c.args.self.now.whole c.requires.2

pub returns : goal.returns
returns c =
    let a = c.args in
    let l = c.loop-z in
    all_laid a.s a.marks.now c.requires.0 l.self.cells (subst (λ (n : ℕ). Laid a.s a.marks.now (307 + 289 * n) l.self.cells) (omega arith) l.invariant)
