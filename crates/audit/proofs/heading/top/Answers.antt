-- `audit::heading::top` meets its contract. Assumes nothing.
use mathlib.Core.Path.{sym}
use mathlib.Core.List.{append-nil}
use native.Mathlib.Omega.{arith}
use Rattle.text.proofs.Adding.{added_then, added_as, added_within}
use Rattle.audit.specs.Heading.{top_text}
use Rattle.audit.proofs.heading.top.Goals as goal

pub returns-then-long : goal.returns-then-long
unfolding top_text
returns-then-long g c = rw c.if-long.true (added_then c.heading.ensures c.say.ensures)

pub returns-else-long : goal.returns-else-long
unfolding top_text
returns-else-long g c = rw c.if-long.false (added_within (omega arith) (added_as (sym (append-nil _)) c.heading.ensures))
