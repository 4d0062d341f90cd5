-- `dukthari::state_calls::dk_outstanding` meets its contract: the answer is passed on, and its count fits. Assumes nothing.
use Rattle.dukthari.proofs.Small.{outstanding_fits}
use Rattle.dukthari.proofs.state_calls.dk_outstanding.Goals as goal

pub counted_fields-requires : goal.counted_fields-requires
counted_fields-requires c = rw (c.outstanding-a.ensures, c.sizes_of.ensures) (outstanding_fits _ _ _)
