-- `audit::auditing::audit_log` meets its contract: no total is above the bytes passed. Assumes nothing.
use mathlib.Core.Path.{◌≡◌}
use Prim.Native.Nat.{◌-◌, ◌≤◌}
use lib.ListN.{length}
use Rattle.logfile.specs.Log.{lines_of}
use Rattle.audit.specs.Audit.{totals_from, totals_of, Few}
use Rattle.audit.proofs.auditing.audit_log.Given as goal

abbrev pub invariant-loop-rest : goal.invariant-loop-rest
invariant-loop-rest g l =
    (length l.rest ≤ length l.log)
    × Few l.t (length l.log - length l.rest)
    × (totals_from l.s l.cells l.t (lines_of l.rest) ≡ totals_of l.s l.cells l.log)

abbrev pub decreases-loop-rest : goal.decreases-loop-rest
decreases-loop-rest g l = length l.rest
