-- `picture::drawing::layers_into` meets its contract. Assumes nothing.
use Prim.Native.Nat.{◌+◌}
use native.Mathlib.Omega.{arith}
use Rattle.text.proofs.Saying.{saying_none, saying_more, said_page}
use Rattle.picture.specs.Picture.{layer_text}
use Rattle.picture.specs.Room.{layer_head_room, rows_room}
use Rattle.picture.proofs.Drawn.{narrow}
use Rattle.picture.proofs.drawing.layers_into.Goals as goal

pub loop-c-init : goal.loop-c-init
loop-c-init c =
    let a = c.args in
    saying_none (layer_text a.s a.drawn.now a.g) (layer_head_room + rows_room) (a.g.z.steps + 1) a.out.now a.at
    (omega (arith, c.requires.1, (narrow c.requires.0).z_in))

pub loop-c-preserved : goal.loop-c-preserved
loop-c-preserved c =
    saying_more (omega arith) c.loop-c.invariant (said_page c.clear.ensures c.layer.ensures c.text.ensures c.say-next.ensures)
