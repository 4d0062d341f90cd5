-- `picture::drawing::layers_into` meets its contract. Assumes nothing.
use Prim.Native.Nat.{◌+◌}
use Rattle.text.proofs.Saying.{Saying}
use Rattle.picture.specs.Picture.{layer_text}
use Rattle.picture.specs.Room.{layer_head_room, rows_room}
use Rattle.picture.proofs.drawing.layers_into.Given as goal

abbrev pub invariant-loop-c : goal.invariant-loop-c
invariant-loop-c l = Saying (layer_text l.s l.drawn l.g) (layer_head_room + rows_room) (l.g.z.steps + 1) l.initial.out l.at l.c l.out l.next
