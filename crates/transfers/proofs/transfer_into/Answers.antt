-- `transfers::transfer_into` meets its contract. Assumes nothing.
use mathlib.Core.Path.{sym, ◌∙◌}
use native.Mathlib.Omega.{arith}
use Rattle.std.proofs.Common.{rules}
use Rattle.text.proofs.Saying.{said_page, said_then, said_as}
use Rattle.transfers.specs.Room.{head_room, granted_room, refused_room}
use Rattle.transfers.proofs.Judged.{granted_says, judged_text}
use Rattle.transfers.proofs.transfer_into.Goals as goal

pub granted-requires : goal.granted-requires
granted-requires c =
    let a = c.args in
    let says = granted_says a.s a.cells.now a.start a.end _ (sym c.requires.0 ∙ c.in-Ok.is) in
    (search rules, (says.0, says.1, search rules))

pub returns-in-Ok : goal.returns-in-Ok
returns-in-Ok c =
    let a = c.args in
    let all = said_then head_room granted_room (omega (arith, c.requires.1)) c.tell-next.ensures
    (said_page c.blank-page.ensures c.granted.ensures c.text.ensures c.say.ensures) in
    (said_as (judged_text a.s a.cells.now a.k a.start a.end _ (sym c.requires.0 ∙ c.in-Ok.is)) all.0, omega (arith, all.1))

pub returns-in-Err : goal.returns-in-Err
returns-in-Err c =
    let a = c.args in
    let all = said_then head_room refused_room (omega (arith, c.requires.1)) c.tell-next.ensures c.refused_into.ensures in
    (said_as (judged_text a.s a.cells.now a.k a.start a.end _ (sym c.requires.0 ∙ c.in-Err.is)) all.0, omega (arith, all.1))
