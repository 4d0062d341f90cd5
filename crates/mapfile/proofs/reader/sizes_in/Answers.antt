-- `mapfile::reader::sizes_in` meets its contract. Assumes nothing.
use Rattle.mapfile.proofs.reader.sizes_in.Goals as goal

pub returns : goal.returns
returns c = rw (c.trailer_at.ensures, c.trailer_at-2.ensures, c.trailer_at-3.ensures)
