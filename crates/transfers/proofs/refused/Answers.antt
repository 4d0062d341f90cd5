-- `transfers::refused` meets its contract. Assumes nothing.
use mathlib.Core.Path.{◌≡◌, sym, ap, ◌∙◌}
use mathlib.Core.List.{append-nil}
use native.Mathlib.Omega.{arith}
use Rattle.std.proofs.Common.{rules}
use Rattle.text.proofs.Adding.{added_then, added_as, added_within}
use Rattle.transfers.specs.Transfer.{no_path, refused_text}
use Rattle.transfers.proofs.Judged.{no_path_ends}
use Rattle.transfers.proofs.Reasons.{other_reason}
use Rattle.transfers.proofs.refused.Given.{Over}
use Rattle.transfers.proofs.refused.Goals as goal
use Rattle.transfers.proofs.refused.Goals.{Joined-matches, in-NoPath, in_default}

-- whether the picture follows
without_path : (g : Over) (c : Joined-matches g) → no_path c.args.r ≡ c.match-matches.matches
without_path g c =
    elim c.match-matches.branch [
      | in-NoPath w ↦ ap no_path w.in-NoPath.is ∙ sym w.matches-is
      | in_default w ↦ other_reason c.args.r w.in_default.not-NoPath ∙ sym w.matches-is
    ]

pub picture-requires : goal.picture-requires
picture-requires g c =
    let a = c.args in
    let known = without_path g (goal.at.picture-requires g c).Joined-matches ∙ c.if-matches.true in
    (search rules, (no_path_ends a.s a.cells.now a.start a.end a.r c.requires.0 known, omega (arith, c.requires.1)))

pub returns-then-matches : goal.returns-then-matches
unfolding refused_text
returns-then-matches g c =
    rw (without_path g (goal.at.returns-then-matches g c).Joined-matches ∙ c.if-matches.true) (added_then c.say_refusal.ensures c.picture.ensures)

pub returns-else-matches : goal.returns-else-matches
unfolding refused_text
returns-else-matches g c =
    rw (without_path g (goal.at.returns-else-matches g c).Joined-matches ∙ c.if-matches.false)
    (added_within (omega arith) (added_as (sym (append-nil _)) c.say_refusal.ensures))
