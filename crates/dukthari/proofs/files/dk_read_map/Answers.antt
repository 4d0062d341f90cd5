-- `dukthari::files::dk_read_map` meets its contract: the answer is passed on, its sizes fit, and a slice of bytes has bytes. Assumes nothing.
use Rattle.dukthari.proofs.Small.{read_fits}
use Rattle.dukthari.proofs.files.dk_read_map.Goals as goal

pub map_fields-requires : goal.map_fields-requires
map_fields-requires c = rw c.read_map-a.ensures.0 (read_fits _ _)
