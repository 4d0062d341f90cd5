-- `trails::follow::lay` meets its contract: row after row. Assumes nothing.
use mathlib.Core.Path.{◌≡◌, refl, subst}
use Prim.Native.Nat.{ℕ, ◌+◌, ◌*◌}
use native.Mathlib.Omega.{arith}
use lib.ListN.{get_or}
use Rattle.mesh.specs.Fill.{Filled}
use Rattle.mesh.proofs.Fill.{fill_none, fill_more}
use Rattle.trails.proofs.follow.lay.Goals as goal

pub loop-b-preserved : goal.loop-b-preserved
loop-b-preserved c =
    let F = c.loop-b.invariant in
    fill_more _ _ _ _ _ _ _ F (omega (arith, F.size)) (λ i h q. omega arith) refl refl

pub returns : goal.returns
returns c =
    let a = c.args in
    let l = c.loop-b in
    let e : l.b ≡ 16 = omega arith in
    subst (λ (n : ℕ). Filled (λ b. 16 * a.c + b) (λ b. get_or a.rows.now b 0) a.table.now l.table n) e l.invariant

pub loop-b-init : goal.loop-b-init
loop-b-init c = fill_none _ _ _
