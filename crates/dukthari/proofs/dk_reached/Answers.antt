-- `dukthari::dk_reached` meets its contract: the answer is passed on, and its count fits. Assumes nothing.
use Rattle.dukthari.proofs.Small.{reached_fits}
use Rattle.dukthari.proofs.dk_reached.Goals as goal

pub counted_fields-requires : goal.counted_fields-requires
counted_fields-requires c = rw (c.reached-a.ensures.value, c.sizes_of.ensures) (reached_fits _ _ _ _ _)
