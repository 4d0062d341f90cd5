-- `picture::symbols::draw_over` meets its contract: one symbol a turn. Assumes nothing.
use mathlib.Core.Path.{◌≡◌, refl, ap, ◌∙◌, subst}
use Prim.Native.Nat.{ℕ}
use native.Mathlib.Omega.{arith}
use lib.ListN.{length, get_or}
use Rattle.mesh.specs.Fill.{Filled}
use Rattle.mesh.proofs.Fill.{fill_none, fill_more}
use Rattle.picture.specs.Picture.{symbol_of}
use Rattle.picture.proofs.symbols.draw_over.Invariants.{drawing}
use Rattle.picture.proofs.symbols.draw_over.Goals as goal

pub loop-k-init : goal.loop-k-init
loop-k-init c = fill_none _ _ _

pub loop-k-preserved : goal.loop-k-preserved
loop-k-preserved c =
    let k = c.loop-k.k in
    let a = c.args in
    let F = c.loop-k.invariant in
    fill_more _ _ _ _ k k c.symbol.result F (omega (arith, F.size)) (λ i h q. omega arith) refl
    (c.symbol.ensures ∙ ap (λ (x : ℕ). symbol_of a.start a.end k x (get_or a.cells.now k 0)) (F.kept k (λ i h q. omega arith)))

pub returns : goal.returns
returns c =
    let a = c.args in
    let e : c.loop-k.k ≡ length a.cells.now = omega arith in
    subst (λ (n : ℕ). Filled (λ i. i) (drawing a.start a.end a.drawn.now a.cells.now) a.drawn.now c.loop-k.drawn n) e c.loop-k.invariant
