-- `transfers::say_granted` meets its contract. Assumes nothing.
use Rattle.transfers.specs.Transfer.{granted_text}
use Rattle.text.proofs.Adding.{added_then}
use Rattle.transfers.proofs.say_granted.Goals as goal

pub returns : goal.returns
unfolding granted_text
returns g c = rw (← c.requires.0) (added_then (added_then c.tell.ensures c.say_route.ensures) c.say.ensures)
