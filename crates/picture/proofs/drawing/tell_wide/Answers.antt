-- `picture::drawing::tell_wide` meets its contract. Assumes nothing.
use native.Mathlib.Omega.{arith}
use borrow.Author.Tests.{lt-ltb, le-ltb}
use Rattle.text.proofs.Adding.{added_within}
use Rattle.picture.specs.Picture.{told_wide}
use Rattle.picture.proofs.drawing.tell_wide.Goals as goal

pub returns-then-n-lt10 : goal.returns-then-n-lt10
unfolding told_wide
returns-then-n-lt10 g c = rw (lt-ltb _ _ c.if-n-lt10.true) c.tell.ensures

pub returns-else-n-lt10 : goal.returns-else-n-lt10
unfolding told_wide
returns-else-n-lt10 g c = rw (le-ltb _ _ c.if-n-lt10.false) (added_within (omega arith) c.tell-else-n-lt10.ensures)
