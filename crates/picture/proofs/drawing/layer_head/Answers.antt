-- `picture::drawing::layer_head` meets its contract. Assumes nothing.
use Rattle.text.proofs.Adding.{added_then}
use Rattle.picture.specs.Picture.{layer_head}
use Rattle.picture.proofs.drawing.layer_head.Goals as goal

pub returns : goal.returns
unfolding layer_head
returns g c = added_then (added_then c.tell.ensures c.columns.ensures) c.say.ensures
