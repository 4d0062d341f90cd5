-- `picture::drawing::columns` meets its contract. Assumes nothing.
use mathlib.Core.Path.{ap}
use Rattle.text.specs.Text.{ascii}
use Rattle.text.proofs.Adding.{added_no_piece, added_piece, added_as}
use Rattle.picture.specs.Picture.{told_wide, column_text}
use Rattle.picture.specs.Room.{column_room}
use Rattle.picture.proofs.drawing.columns.Goals as goal

pub loop-a-init : goal.loop-a-init
loop-a-init g c = added_no_piece (column_text c.args.x) column_room c.args.page.now

pub loop-a-preserved : goal.loop-a-preserved
loop-a-preserved g c =
    added_piece (column_text c.args.x) column_room c.loop-a.a c.loop-a.invariant
    (added_as (ap (told_wide (ascii "  %") (ascii " %")) c.at.ensures) c.tell_wide.ensures)
