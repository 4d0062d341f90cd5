-- `trails::spread::spread` meets its contract: layer after layer. Assumes nothing.
use mathlib.Core.Path.{◌≡◌}
use lib.ListN.{length}
use Rattle.maps.specs.Shelf.{map_on}
use Rattle.sweeps.specs.Sweep.{After, WaysAfter}
use Rattle.trails.specs.Spread.{Spread}
use Rattle.trails.proofs.spread.spread.Given as goal

abbrev pub invariant-loop-c : goal.invariant-loop-c
invariant-loop-c l = record {
  long : length l.rows ≡ 16;
  given : length l.faulty ≡ 16;
  after : After (map_on l.shelf) l.g l.c l.rows;
  ways : WaysAfter (map_on l.shelf) l.g l.c l.w;
  shown : Spread (map_on l.shelf) l.g l.c l.initial.bytes l.bytes;
}
