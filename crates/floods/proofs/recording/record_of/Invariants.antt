-- `floods::recording::record_of` meets its contract. The loop's invariant: the record's box is that of the places so far. Assumes nothing.
use mathlib.Core.Path.{◌≡◌}
use Prim.Native.Nat.{◌+◌}
use lib.ListN.{length}
use Rattle.floods.proofs.Boxes.{Boxed}
use Rattle.floods.proofs.recording.record_of.Given as goal

abbrev pub invariant-loop-at : goal.invariant-loop-at
invariant-loop-at l = (l.c.count ≡ length l.places) × Boxed l.places (l.at-index + 1) l.c
