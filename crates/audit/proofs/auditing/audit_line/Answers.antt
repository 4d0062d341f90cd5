-- `audit::auditing::audit_line` meets its contract, by what the line says. Assumes nothing.
use mathlib.Core.Path.{◌≡◌, sym, ap, ◌∙◌}
use mathlib.Core.List.{List}
use Prim.Native.Nat.{ℕ, ◌+◌}
use native.Mathlib.Omega.{arith}
use Rattle.mesh.specs.declared.Sizes.{Sizes}
use Rattle.text.proofs.Adding.{added_none, added_as, added_within}
use Rattle.logfile.specs.Log.{entry_of}
use Rattle.audit.specs.Audit.{entry_text, judge, tally, line_text, line_totals}
use Rattle.logfile.specs.declared.Entry.{Entry}
use Rattle.logfile.specs.declared.Entry.TheVariants.{Nothing, NoPair}
use Rattle.audit.specs.declared.Totals.{Totals}
use Rattle.audit.proofs.auditing.audit_line.Goals as goal

module _ (S : Sizes) (cells : List ℕ) (t : Totals) (line : List ℕ) (y : Entry) (is : entry_of line ≡ y) where
  line_text_is : entry_text S cells (t.lines + 1) y ≡ line_text S cells t line
  unfolding line_text
  line_text_is = ap (entry_text S cells (t.lines + 1)) (sym is)

  line_totals_is : tally S cells t y ≡ line_totals S cells t line
  unfolding line_totals
  line_totals_is = ap (tally S cells t) (sym is)

pub returns-in-Nothing : goal.returns-in-Nothing
returns-in-Nothing g c =
    let a = c.args in
    let is = sym c.entry.ensures ∙ c.in-Nothing.is in (
      c.line.ensures ∙ line_totals_is a.s a.cells.now a.t a.line.now Nothing is,
      added_as (line_text_is a.s a.cells.now a.t a.line.now Nothing is) (added_within (omega arith) (added_none a.page.now)),
    )

pub returns-in-Transfer : goal.returns-in-Transfer
returns-in-Transfer g c =
    let a = c.args in
    let is = sym c.entry.ensures ∙ c.in-Transfer.is in (
      c.judge.ensures ∙ ap (judge a.t) c.verdict-v.ensures ∙ line_totals_is a.s a.cells.now a.t a.line.now _ is,
      added_as (line_text_is a.s a.cells.now a.t a.line.now _ is) c.transfer.ensures,
    )

pub returns-in-NoPair : goal.returns-in-NoPair
returns-in-NoPair g c =
    let a = c.args in
    let is = sym c.entry.ensures ∙ c.in-NoPair.is in (
      c.no_pair.ensures ∙ line_totals_is a.s a.cells.now a.t a.line.now NoPair is,
      added_as (line_text_is a.s a.cells.now a.t a.line.now NoPair is) (added_within (omega arith) c.tell.ensures),
    )
