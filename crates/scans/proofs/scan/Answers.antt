-- `scans::scan` meets its contract: the rows so far are right and their words counted, and a row that is not right makes the state unsound.
-- Assumes nothing.
use mathlib.Core.Path.{◌≡◌, refl, sym, ◌∙◌, ap}
use mathlib.Core.Bool.{Bool, true, false}
use Prim.Native.Nat.{ℕ, ◌*◌}
use native.Mathlib.Omega.{arith}
use Rattle.std.specs.Prelude.{Some, None, Ok}
use Rattle.std.specs.Bool.{then_some}
use Rattle.mesh.specs.Tools.{all, sum}
use Rattle.mesh.proofs.Tests.{all_more, all_fails, holds_true}
use Rattle.mesh.proofs.Tables.{sum_more}
use Rattle.mesh.proofs.Numbers.{rows_le}
use Rattle.mesh.proofs.Strides.{sum_rows}
use Rattle.talk.specs.Sound.{sound}
use Rattle.talk.proofs.Decide.{sound_iff}
use Rattle.scans.specs.Scan.{row_test, row_news, node_news}
use Rattle.scans.proofs.Scanned.{scan_is}
use Rattle.scans.proofs.Counted.{news_is}
use Rattle.scans.proofs.Tested.{row_few}
use Rattle.scans.proofs.scan.Goals as goal

given : (t : Bool) (n m : ℕ) → Some m ≡ then_some t n → (t ≡ true) × (m ≡ n)
given true n m e = (refl, cc)
given false n m e = let no : ⊥ = cc in absurd no

refused : (t : Bool) (n : ℕ) → None ≡ then_some t n → t ≡ false
refused true n e = let no : ⊥ = cc in absurd no
refused false n e = refl

pub loop-at-init : goal.loop-at-init
unfolding all sum
loop-at-init c = (refl, refl, omega arith)

pub returns-in_default : goal.returns-in_default
returns-in_default c =
    let l = c.loop-at in
    let a = c.args in
    let rows = row_test a.s a.o a.state.now in
    let bad : rows l.at ≡ false = refused _ _ (sym c.in_default.is ∙ c.row.ensures) in
    let no : sound a.s a.o a.state.now ≡ false =
    sym (scan_is a.s a.o a.state.now c.requires.0.long) ∙ all_fails (a.s.h * a.s.d) rows l.at c.loop-at-test.true bad in
    rw no

pub overflow_add-news : goal.overflow_add-news
overflow_add-news c =
    let a = c.args in
    let (_, n) = given _ _ _ (sym c.in-Some.is ∙ c.row.ensures) in
    omega (arith, n, row_few a.s c.requires.0.sized a.state.now c.loop-at.at, c.loop-at.invariant.2, rows_le a.s c.requires.0.sized)

pub loop-at-preserved : goal.loop-at-preserved
loop-at-preserved c =
    let l = c.loop-at in
    let a = c.args in
    let t = a.state.now in
    let (good, n) = given _ _ _ (sym c.in-Some.is ∙ c.row.ensures) in (
      all_more l.at (row_test a.s a.o t) ∙ (rw (good, l.invariant.0)),
      omega (arith, n, l.invariant.1, sum_more l.at (row_news a.s t)),
      omega (arith, n, row_few a.s c.requires.0.sized t l.at, l.invariant.2),
    )

pub returns : goal.returns
returns c =
    let l = c.loop-at in
    let a = c.args in
    let t = a.state.now in
    let rows = row_test a.s a.o t in
    let e : l.at ≡ a.s.h * a.s.d = omega arith in
    let yes : sound a.s a.o t ≡ true =
    sym (ap (λ (n : ℕ). all n rows) e ∙ scan_is a.s a.o t c.requires.0.long) ∙ l.invariant.0 in
    rw yes (ap Ok (
    l.invariant.1
    ∙ ap (λ (n : ℕ). sum n (row_news a.s t)) e
    ∙ sym (sum_rows a.s.w (a.s.h * a.s.d) (node_news a.s t))
    ∙ news_is a.s a.o t ((sound_iff a.s a.o t).0 ((holds_true (sound a.s a.o t)).1 yes))))
