-- `dukthari::dk_verdict` meets its contract: the answer is passed on, and its hops fit. Assumes nothing.
use Rattle.dukthari.proofs.Small.{verdict_fits}
use Rattle.dukthari.proofs.dk_verdict.Goals as goal

pub verdict_fields-requires : goal.verdict_fields-requires
verdict_fields-requires c = rw (c.verdict-a.ensures, c.sizes_of.ensures) (verdict_fits _ _ _ _)
