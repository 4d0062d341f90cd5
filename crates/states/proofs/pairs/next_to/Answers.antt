-- `states::pairs::next_to` meets its contract: a step from the node's place. Assumes nothing.
use mathlib.Core.Path.{◌∙◌}
use Rattle.mesh.proofs.Numbers.{place_in}
use Rattle.states.proofs.pairs.next_to.Goals as goal

pub step-requires : goal.step-requires
step-requires c =
    (c.requires.2, c.requires.0, rw c.place.ensures (place_in c.args.s c.args.k c.requires.1))

pub returns : goal.returns
returns c = c.step.ensures ∙ (rw c.place.ensures)
