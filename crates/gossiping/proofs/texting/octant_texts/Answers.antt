-- `gossiping::texting::octant_texts` meets its contract: the texts of the first o orientations stand one after another. Assumes nothing.
use mathlib.Core.Path.{refl, ◌∙◌}
use Rattle.maps.specs.Shelf.{map_on}
use Rattle.text.proofs.Adding.{added_turn}
use Rattle.gossiping.specs.Room.{octant_room}
use Rattle.gossiping.proofs.Texts.{no_text, one_more_text}
use Rattle.gossiping.proofs.texting.octant_texts.Goals as goal

pub loop-o-init : goal.loop-o-init
loop-o-init g c = (refl, no_text (map_on c.args.shelf.now) c.args.page.now)

pub loop-o-preserved : goal.loop-o-preserved
loop-o-preserved g c =
    let o = c.loop-o.o in (
      c.octant_text.auto.state ∙ c.loop-o.invariant.0,
      added_turn octant_room o (one_more_text (map_on c.args.shelf.now) o) c.loop-o.invariant.1 c.octant_text.ensures,
    )
