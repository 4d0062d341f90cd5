-- `logfile::reading::number` meets its contract: what is read from the bytes left is what is read from all. Assumes nothing.
use mathlib.Core.Path.{◌≡◌}
use Prim.Native.Nat.{◌^◌, ◌<◌}
use lib.ListN.{drop}
use Rattle.logfile.specs.Log.{read_from, number_of}
use Rattle.logfile.proofs.reading.number.Given as goal

abbrev pub invariant-loop-b : goal.invariant-loop-b
invariant-loop-b l = (l.n < 2 ^ 32) × (read_from l.n (drop l.b-index l.word) ≡ number_of l.word)
