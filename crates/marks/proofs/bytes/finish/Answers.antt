-- `marks::bytes::finish` meets its contract: turn i reads byte i, which no turn before it wrote. Assumes nothing.
use mathlib.Core.Path.{◌≡◌, refl, ap, ◌∙◌, subst}
use Prim.Native.Nat.{ℕ}
use native.Mathlib.Omega.{arith}
use lib.ListN.{length, get_or}
use Rattle.mesh.proofs.Fill.{fill_none, fill_more}
use Rattle.marks.specs.Sweep.{mark_of, Finished}
use Rattle.marks.proofs.bytes.finish.Goals as goal

pub loop-i-init : goal.loop-i-init
loop-i-init c = fill_none _ _ _

pub loop-i-preserved : goal.loop-i-preserved
loop-i-preserved c =
    let i = c.loop-i.i in
    let F = c.loop-i.invariant in
    fill_more _ _ _ _ i i c.mark_byte.result F (omega (arith, F.size)) (λ j h e. omega arith) refl
    (c.mark_byte.ensures ∙ ap (mark_of (get_or c.args.cells.now i 0)) (F.kept i (λ j h e. omega arith)))

pub returns : goal.returns
returns c =
    let a = c.args in
    let e : c.loop-i.i ≡ length a.cells.now = omega arith in
    subst (λ (n : ℕ). Finished a.cells.now a.out.now c.loop-i.out n) e c.loop-i.invariant
