-- `gossiping::lines::round_line` meets its contract: the form says whether the round had loss. Assumes nothing.
use native.Mathlib.Omega.{arith}
use borrow.Author.Tests.{le-leb, lt-leb}
use Rattle.text.proofs.Adding.{added_within}
use Rattle.gossiping.specs.Text.{round_line}
use Rattle.gossiping.proofs.lines.round_line.Goals as goal

pub returns-then-r-gt-LOSSY_ROUNDS : goal.returns-then-r-gt-LOSSY_ROUNDS
unfolding round_line
returns-then-r-gt-LOSSY_ROUNDS g c = rw (lt-leb _ _ c.if-r-gt-LOSSY_ROUNDS.true) (added_within (omega arith) c.tell.ensures)

pub returns-else-r-gt-LOSSY_ROUNDS : goal.returns-else-r-gt-LOSSY_ROUNDS
unfolding round_line
returns-else-r-gt-LOSSY_ROUNDS g c =
    rw (le-leb _ _ c.if-r-gt-LOSSY_ROUNDS.false) (added_within (omega arith) c.tell-else-r-gt-LOSSY_ROUNDS.ensures)
