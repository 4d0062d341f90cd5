-- `gossiping::texting::octant_texts` meets its contract: the texts of the first o orientations stand one after another. Assumes nothing.
use mathlib.Core.Path.{◌≡◌}
use Prim.Native.Nat.{◌*◌}
use lib.ListN.{length}
use Rattle.maps.specs.Shelf.{map_on}
use Rattle.text.specs.Text.{Added}
use Rattle.gossiping.specs.Text.{octant_texts}
use Rattle.gossiping.specs.Room.{octant_room}
use Rattle.gossiping.proofs.texting.octant_texts.Given as goal

abbrev pub invariant-loop-o : goal.invariant-loop-o
invariant-loop-o g l = (length l.state ≡ length l.initial.state)
    × Added l.initial.page (octant_texts (map_on l.shelf) l.o) (octant_room * l.o) l.page
