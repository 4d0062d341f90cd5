-- `marks::sweep::sweep` meets its contract: layer after layer, each over the one before it. Assumes nothing.
use mathlib.Core.Path.{◌≡◌}
use lib.ListN.{length}
use Rattle.maps.specs.Shelf.{map_on}
use Rattle.marks.specs.Sweep.{prior, Holds, Layers}
use Rattle.marks.proofs.Rows.{shut_left}
use Rattle.marks.proofs.sweep.sweep.Given as goal

abbrev pub invariant-loop-c : goal.invariant-loop-c
invariant-loop-c l = record {
  long : length l.rows ≡ 16;
  holds : Holds l.g (prior (map_on l.shelf) (shut_left (map_on l.shelf) l.o) l.c) l.rows;
  layers : Layers (map_on l.shelf) l.g (shut_left (map_on l.shelf) l.o) l.v l.initial.out l.out l.c;
}
