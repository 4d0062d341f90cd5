-- `dukthari::dk_number` meets its contract: the answer is passed on, and its number fits. Assumes nothing.
use Rattle.dukthari.proofs.Small.{number_fits}
use Rattle.dukthari.proofs.dk_number.Goals as goal

pub node_fields-requires : goal.node_fields-requires
node_fields-requires c = rw (c.number_of-a.ensures, c.place_at.ensures, c.sizes_of.ensures) (number_fits _ _)
