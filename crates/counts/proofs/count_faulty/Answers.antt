-- `counts::count_faulty` meets its contract: n of the first cells are of faulty nodes. Assumes nothing.
use mathlib.Core.Path.{◌≡◌, ap, ◌∙◌}
use Prim.Native.Nat.{ℕ}
use native.Mathlib.Omega.{arith}
use lib.ListN.{length}
use Rattle.mesh.specs.Tools.{count}
use Rattle.counts.proofs.Tally.{none, one_more}
use Rattle.counts.proofs.count_faulty.Invariants.{is_faulty}
use Rattle.counts.proofs.count_faulty.Goals as goal

pub loop-cell-init : goal.loop-cell-init
loop-cell-init c = none _

pub loop-cell-preserved : goal.loop-cell-preserved
loop-cell-preserved c =
    let l = c.loop-cell in
    one_more (is_faulty c.args.cells.now) l.cell-index l.n _ l.invariant c.faulty_bit.ensures

pub returns : goal.returns
returns c =
    let l = c.loop-cell in
    let cells = c.args.cells.now in
    let e : l.cell-index ≡ length cells = omega arith in
    l.invariant.is ∙ ap (λ (k : ℕ). count k (is_faulty cells)) e
