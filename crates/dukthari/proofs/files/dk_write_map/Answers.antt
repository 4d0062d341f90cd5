-- `dukthari::files::dk_write_map` meets its contract: the answer is passed on, and its length fits. Assumes nothing.
use Rattle.dukthari.proofs.Small.{write_fits}
use Rattle.dukthari.proofs.files.dk_write_map.Goals as goal

pub counted_fields-requires : goal.counted_fields-requires
counted_fields-requires c = rw (c.write_map-a.ensures.0, c.sizes_of.ensures) (write_fits _ _ _)
