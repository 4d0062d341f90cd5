-- `scans::row` meets its contract: the nodes so far pass their tests, and their words are counted but for a multiple of 255, of which there are
-- too few. Assumes nothing.
use mathlib.Core.Path.{◌≡◌, refl, sym, ◌∙◌, ap, subst}
use mathlib.Core.Bool.{true, false}
use Prim.Native.Nat.{ℕ, ◌+◌, ◌*◌, ◌%◌}
use native.Mathlib.Omega.{arith}
use Rattle.mesh.specs.Tools.{all, sum}
use Rattle.mesh.proofs.Tests.{all_more, all_fails}
use Rattle.mesh.proofs.Tables.{sum_more}
use Rattle.mesh.proofs.Strides.{row_number}
use Rattle.states.specs.Six.{◌is_but255◌}
use Rattle.scans.specs.Scan.{node_test, node_news, row_test, row_news, Right}
use Rattle.states.proofs.Packed.{but_add, but_few}
use Rattle.scans.proofs.Tested.{row_few}
use Rattle.scans.proofs.row.Goals as goal

pub loop-x-init : goal.loop-x-init
unfolding all sum
loop-x-init c = (refl, (0, refl), omega arith)

pub returns-in_err-news : goal.returns-in_err-news
returns-in_err-news c =
    let a = c.args in
    let test = λ (i : ℕ). node_test a.s a.o a.state.now (i + a.s.w * a.row) in
    let bad : test c.loop-x.x ≡ false = ap (node_test a.s a.o a.state.now) (sym (row_number a.s a.row c.loop-x.x)) ∙ c.in_err-news.ensures in
    let fails : row_test a.s a.o a.state.now a.row ≡ false = all_fails a.s.w test c.loop-x.x c.loop-x-test.true bad in
    c.from_residual.ensures ∙ (rw fails)

pub loop-x-preserved : goal.loop-x-preserved
loop-x-preserved c =
    let l = c.loop-x in
    let a = c.args in
    let t = a.state.now in
    let n = c.in_ok-news.field-0.bytes in
    let k = l.x + a.s.w * a.row in
    let news = λ (i : ℕ). node_news a.s t (i + a.s.w * a.row) in
    let right : Right a.s a.o t k n = subst (λ (k : ℕ). Right a.s a.o t k n) (row_number a.s a.row l.x) c.in_ok-news.ensures in
    let (m, q) = but_add l.news n (sum l.x news) (news l.x) l.invariant.1 right.counts in (
      all_more l.x (λ i. node_test a.s a.o t (i + a.s.w * a.row)) ∙ (rw (right.passes, l.invariant.0)),
      (m, omega (arith, q, sum_more l.x news)),
      omega (arith, right.few, l.invariant.2),
    )

pub returns : goal.returns
returns c =
    let l = c.loop-x in
    let a = c.args in
    let t = a.state.now in
    let e : l.x ≡ a.s.w = omega arith in
    let news = λ (i : ℕ). node_news a.s t (i + a.s.w * a.row) in
    let passes : row_test a.s a.o t a.row ≡ true =
    ap (λ (n : ℕ). all n λ i. node_test a.s a.o t (i + a.s.w * a.row)) (sym e) ∙ l.invariant.0 in
    let counts : l.news is_but255 row_news a.s t a.row = subst (λ (n : ℕ). l.news is_but255 sum n news) e l.invariant.1 in
    let is : l.news % 255 ≡ row_news a.s t a.row = but_few l.news (row_news a.s t a.row) counts (omega (arith, row_few a.s c.requires.0.sized t a.row)) in
    rw (passes, is)
