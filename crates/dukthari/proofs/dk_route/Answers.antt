-- `dukthari::dk_route` meets its contract: the answer is passed on, and its length fits. Assumes nothing.
use Rattle.dukthari.proofs.Small.{route_fits}
use Rattle.dukthari.proofs.dk_route.Goals as goal

pub counted_fields-requires : goal.counted_fields-requires
counted_fields-requires c = rw (c.route-a.ensures.value, c.sizes_of.ensures) (route_fits _ _ _ _ _)
