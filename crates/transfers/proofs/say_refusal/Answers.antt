-- `transfers::say_refusal` meets its contract: the line of the refusal's number is its reason. Assumes nothing.
use mathlib.Core.Path.{◌≡◌, ap, ◌∙◌}
use mathlib.Core.List.{[]}
use Prim.Native.Nat.{ℕ}
use native.Mathlib.Omega.{arith}
use lib.ListN.{get_or}
use Rattle.text.proofs.Adding.{added_then, added_as, added_within}
use Rattle.logfile.specs.Log.{lines_of}
use Rattle.transfers.specs.Words.{reasons, reason, reason_line}
use Rattle.transfers.proofs.Reasons.{has_reason}
use Rattle.transfers.proofs.say_refusal.Given.{Over}
use Rattle.transfers.proofs.say_refusal.Goals as goal
use Rattle.transfers.proofs.say_refusal.Goals.{After-line_of-reason}

reason_is : (g : Over) (c : After-line_of-reason g) → c.line_of-reason.result.now ≡ reason c.args.r
unfolding reasons
reason_is g c = c.line_of-reason.ensures.0 ∙ ap (λ (n : ℕ). get_or (lines_of reasons) n []) c.from.ensures

pub line_of-reason-requires : goal.line_of-reason-requires
unfolding reasons
line_of-reason-requires g c = has_reason c.from.result c.args.r c.from.ensures

pub returns : goal.returns
unfolding reason_line
returns g c =
    let why = added_as (reason_is g (goal.at.returns g c).After-line_of-reason) c.say-2.ensures in
    added_within (omega (arith, c.line_of-reason.ensures.1)) (added_then (added_then c.say.ensures why) c.say-3.ensures)
