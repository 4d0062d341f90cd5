-- `grids::Grid::copy_out` meets its contract. The loop's invariant: the layers below `z` are copied. Assumes nothing.
use mathlib.Core.Path.{subst}
use Prim.Native.Nat.{ℕ, ◌*◌}
use native.Mathlib.Omega.{arith}
use Rattle.grids.specs.Layout.{Copied}
use Rattle.grids.proofs.Layouts.{all_copied}
use Rattle.grids.proofs.Grid.copy_out.Goals as goal

pub returns : goal.returns
returns c =
    let a = c.args in
    let l = c.loop-z in
    all_copied a.s a.self.now.cells a.table.now l.table c.requires.1
    (subst (λ (n : ℕ). Copied a.s a.self.now.cells a.table.now (a.s.w * (a.s.h * n)) l.table) (omega arith) l.invariant)
