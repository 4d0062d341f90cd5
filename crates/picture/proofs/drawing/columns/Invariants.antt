-- `picture::drawing::columns` meets its contract. Assumes nothing.
use Prim.Native.Nat.{◌*◌}
use Rattle.text.specs.Text.{pieces, Added}
use Rattle.picture.specs.Picture.{column_text}
use Rattle.picture.specs.Room.{column_room}
use Rattle.picture.proofs.drawing.columns.Given as goal

abbrev pub invariant-loop-a : goal.invariant-loop-a
invariant-loop-a g l = Added l.initial.page (pieces (column_text l.x) l.a) (column_room * l.a) l.page
