-- `picture::drawing::layers` meets its contract. Assumes nothing.
use Prim.Native.Nat.{◌+◌}
use Rattle.text.proofs.Adding.{added_no_piece, added_piece}
use Rattle.picture.specs.Picture.{layer_text}
use Rattle.picture.specs.Room.{layer_head_room, rows_room}
use Rattle.picture.proofs.drawing.layers.Goals as goal

pub loop-c-init : goal.loop-c-init
loop-c-init g c =
    let a = c.args in
    added_no_piece (layer_text a.s a.drawn.now a.g) (layer_head_room + rows_room) a.page.now

pub loop-c-preserved : goal.loop-c-preserved
loop-c-preserved g c =
    let a = c.args in
    added_piece (layer_text a.s a.drawn.now a.g) (layer_head_room + rows_room) c.loop-c.c c.loop-c.invariant c.layer.ensures
