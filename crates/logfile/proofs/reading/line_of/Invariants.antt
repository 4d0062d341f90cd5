-- `logfile::reading::line_of` meets its contract: the lines passed are the first. Assumes nothing.
use mathlib.Core.Path.{◌≡◌}
use Prim.Native.Nat.{◌≤◌}
use lib.ListN.{length, drop}
use Rattle.logfile.specs.Log.{lines_of}
use Rattle.logfile.proofs.reading.line_of.Given as goal

abbrev pub invariant-loop : goal.invariant-loop
invariant-loop l = (length l.rest ≤ length l.text) × (lines_of l.rest ≡ drop l.counter (lines_of l.text))
