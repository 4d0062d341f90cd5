-- `picture::symbols::symbol` meets its contract: each test is asked where those before it failed. Assumes nothing.
use mathlib.Core.Path.{◌≡◌, sym, ◌∙◌}
use mathlib.Core.Bool.{cond}
use borrow.Author.Tests.{eq-eqb, ne_eqb}
use Rattle.mesh.specs.Cells.{may_pass}
use Rattle.picture.specs.Picture.{symbol_of}
use Rattle.picture.proofs.symbols.symbol.Goals as goal
use Rattle.picture.proofs.symbols.symbol.Goals.{Else-seen-eq1}

-- neither the start nor the end, and not reached
other : (c : Else-seen-eq1) →
    let a = c.args in
    symbol_of a.start a.end a.k a.seen a.cell ≡ cond (may_pass a.cell) 46 35
unfolding symbol_of
other c = rw (ne_eqb _ _ c.if-k-start.false, ne_eqb _ _ c.if-k-end.false, ne_eqb _ _ c.if-seen-eq1.false)

pub returns-then-k-start : goal.returns-then-k-start
unfolding symbol_of
returns-then-k-start c = rw (eq-eqb _ _ c.if-k-start.true)

pub returns-then-k-end : goal.returns-then-k-end
unfolding symbol_of
returns-then-k-end c = rw (ne_eqb _ _ c.if-k-start.false, eq-eqb _ _ c.if-k-end.true)

pub returns-then-seen-eq1 : goal.returns-then-seen-eq1
unfolding symbol_of
returns-then-seen-eq1 c = rw (ne_eqb _ _ c.if-k-start.false, ne_eqb _ _ c.if-k-end.false, eq-eqb _ _ c.if-seen-eq1.true)

pub returns-then-may_pass : goal.returns-then-may_pass
returns-then-may_pass c = rw (other (goal.at.returns-then-may_pass c).Else-seen-eq1, sym c.may_pass.ensures ∙ c.if-may_pass.true)

pub returns-else-may_pass : goal.returns-else-may_pass
returns-else-may_pass c = rw (other (goal.at.returns-else-may_pass c).Else-seen-eq1, sym c.may_pass.ensures ∙ c.if-may_pass.false)
