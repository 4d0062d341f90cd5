-- `picture::ends::say_ends` meets its contract. Assumes nothing.
use Rattle.text.proofs.Adding.{added_then}
use Rattle.picture.specs.Picture.{ends_text}
use Rattle.picture.proofs.ends.say_ends.Goals as goal

pub returns : goal.returns
unfolding ends_text
returns g c =
    added_then (added_then (added_then (added_then c.tell.ensures c.say_way.ensures) c.say_way-2.ensures) c.say_way-3.ensures) c.say.ensures
