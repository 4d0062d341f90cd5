-- `transfers::transfer` meets its contract. Assumes nothing.
use mathlib.Core.Path.{sym, ◌∙◌}
use native.Mathlib.Omega.{arith}
use Rattle.std.proofs.Common.{rules}
use Rattle.text.proofs.Adding.{added_then, added_as, added_within}
use Rattle.transfers.proofs.Judged.{granted_says, judged_text}
use Rattle.transfers.proofs.transfer.Goals as goal

pub granted-requires : goal.granted-requires
granted-requires g c =
    let a = c.args in
    let says = granted_says a.s a.cells.now a.start a.end _ (sym c.requires.0 ∙ c.in-Ok.is) in
    (search rules, (says.0, says.1, omega (arith, c.requires.1)))

pub returns-in-Ok : goal.returns-in-Ok
returns-in-Ok g c =
    let a = c.args in
    added_within (omega arith)
    (added_as (judged_text a.s a.cells.now a.k a.start a.end _ (sym c.requires.0 ∙ c.in-Ok.is)) (added_then c.tell.ensures c.granted.ensures))

pub returns-in-Err : goal.returns-in-Err
returns-in-Err g c =
    let a = c.args in
    added_as (judged_text a.s a.cells.now a.k a.start a.end _ (sym c.requires.0 ∙ c.in-Err.is)) (added_then c.tell.ensures c.refused.ensures)
