-- `transfers::refused_into` meets its contract. Assumes nothing.
use mathlib.Core.Path.{◌≡◌, sym, ap, ◌∙◌}
use mathlib.Core.List.{append-nil}
use native.Mathlib.Omega.{arith}
use Rattle.text.proofs.Saying.{said_page, said_then, said_as}
use Rattle.picture.specs.Room.{picture_room}
use Rattle.transfers.specs.Transfer.{no_path, refused_text}
use Rattle.transfers.specs.Room.{refused_line_room}
use Rattle.transfers.proofs.Judged.{no_path_ends}
use Rattle.transfers.proofs.Reasons.{other_reason}
use Rattle.transfers.proofs.refused_into.Goals as goal
use Rattle.transfers.proofs.refused_into.Goals.{Joined-matches, in-NoPath, in_default}

-- whether the picture follows
without_path : (c : Joined-matches) → no_path c.args.r ≡ c.match-matches.matches
without_path c =
    elim c.match-matches.branch [
      | in-NoPath w ↦ ap no_path w.in-NoPath.is ∙ sym w.matches-is
      | in_default w ↦ other_reason c.args.r w.in_default.not-NoPath ∙ sym w.matches-is
    ]

pub picture_into-requires : goal.picture_into-requires
picture_into-requires c =
    let a = c.args in
    let known = without_path (goal.at.picture_into-requires c).Joined-matches ∙ c.if-matches.true in
    let line = said_page c.blank-page.ensures c.say_refusal.ensures c.text.ensures c.say-next.ensures in
    (no_path_ends a.s a.cells.now a.start a.end a.r c.requires.0 known, omega (arith, c.requires.1, c.say-next.auto.out, line.1))

pub returns-then-matches : goal.returns-then-matches
unfolding refused_text
returns-then-matches c =
    rw (without_path (goal.at.returns-then-matches c).Joined-matches ∙ c.if-matches.true)
    (said_then refused_line_room picture_room (omega (arith, c.requires.1))
    (said_page c.blank-page.ensures c.say_refusal.ensures c.text.ensures c.say-next.ensures) c.picture_into.ensures)

pub returns : goal.returns
unfolding refused_text
returns c =
    let line = said_page c.blank-page.ensures c.say_refusal.ensures c.text.ensures c.say-next.ensures in
    rw (without_path (goal.at.returns c).Joined-matches ∙ c.if-matches.false) (said_as (sym (append-nil _)) line.0, omega (arith, line.1))
