-- `audit::running::audit` is safe and ends. Assumes nothing.
use mathlib.Core.Path.{sym}
use Prim.Native.Nat.{ℕ}
use native.Mathlib.Omega.{arith}
use lib.ListN.{replicate}
use lib.Seq.{length-take-le}
use Rattle.std.proofs.lemmas.List.{length-replicate}
use Rattle.format.proofs.Read.{has_read}
use Rattle.audit.proofs.running.audit.Goals as goal

pub nodes-n-requires : goal.nodes-n-requires
nodes-n-requires g c =
    (has_read (replicate 4096 0) (sym (length-replicate {A = ℕ} 4096 0)) c.read_map.ensures c.in-Ok.is).sized

pub slice_bounds-print_audit-end : goal.slice_bounds-print_audit-end
slice_bounds-print_audit-end g c =
    sym (length-take-le c.nodes-n.result c.read_map.new.cells
    (omega (arith, c.nodes-n.ensures.1, c.read_map.auto.cells, length-replicate {A = ℕ} 4096 0)))
