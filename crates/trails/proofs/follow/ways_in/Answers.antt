-- `trails::follow::ways_in` meets its contract. Assumes nothing.
use Rattle.trails.proofs.follow.ways_in.Goals as goal

pub returns : goal.returns
returns c = rw (c.seen_at.ensures, c.seen_at-2.ensures, c.seen_at-3.ensures)
