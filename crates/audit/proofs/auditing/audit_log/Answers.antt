-- `audit::auditing::audit_log` meets its contract: no total is above the bytes passed. Assumes nothing.
use mathlib.Core.Path.{sym, ap, ◌∙◌}
use Prim.Native.Nat.{◌-◌, ◌<◌}
use native.Mathlib.Omega.{arith}
use borrow.Author.Tests.{eqb-true, eqb-false}
use lib.ListN.{length}
use Rattle.logfile.proofs.Lines.{rest_shorter}
use Rattle.audit.proofs.Passing.{more, totals_next, totals_end, few_line}
use Rattle.audit.proofs.auditing.audit_log.Goals as goal

pub loop-rest-preserved : goal.loop-rest-preserved
loop-rest-preserved g c =
    let a = c.args in
    let l = c.loop-rest in
    let rest = l.rest.now in
    let line = c.split_line.result.0.now in
    let after = c.split_line.result.1.now in
    let passed = length a.log.now - length rest in
    let is = c.audit_line-t.ensures.0 in
    let some = eqb-false (length rest) 0 (sym c.is_empty.ensures ∙ c.loop-rest-test.true) in
    let left : 0 < length rest = omega arith in
    let shorter : length after < length rest = omega (arith, ap length c.split_line.ensures.rest, rest_shorter rest left) in (
      omega (arith, l.invariant.0),
      more (few_line a.s a.cells.now l.t passed l.invariant.1 line is) (omega (arith, l.invariant.0)),
      totals_next a.s a.cells.now l.t rest left is c.split_line.ensures.line c.split_line.ensures.rest ∙ l.invariant.2,
    )

pub returns : goal.returns
returns g c =
    let a = c.args in
    let l = c.loop-rest in
    sym (totals_end a.s a.cells.now l.t l.rest.now (eqb-true (length l.rest.now) 0 (sym c.is_empty.ensures ∙ c.loop-rest-test.false))) ∙ l.invariant.2
