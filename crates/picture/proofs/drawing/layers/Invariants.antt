-- `picture::drawing::layers` meets its contract. Assumes nothing.
use Prim.Native.Nat.{◌+◌, ◌*◌}
use Rattle.text.specs.Text.{pieces, Added}
use Rattle.picture.specs.Picture.{layer_text}
use Rattle.picture.specs.Room.{layer_head_room, rows_room}
use Rattle.picture.proofs.drawing.layers.Given as goal

abbrev pub invariant-loop-c : goal.invariant-loop-c
invariant-loop-c g l = Added l.initial.page (pieces (layer_text l.s l.drawn l.g) l.c) ((layer_head_room + rows_room) * l.c) l.page
