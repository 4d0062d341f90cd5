-- `picture::drawing::rows` meets its contract. Assumes nothing.
use Prim.Native.Nat.{◌*◌}
use Rattle.text.specs.Text.{pieces, Added}
use Rattle.picture.specs.Picture.{row_in}
use Rattle.picture.specs.Room.{row_room}
use Rattle.picture.proofs.drawing.rows.Given as goal

abbrev pub invariant-loop-b : goal.invariant-loop-b
invariant-loop-b g l = Added l.initial.page (pieces (row_in l.s l.drawn l.g l.c) l.b) (row_room * l.b) l.page
