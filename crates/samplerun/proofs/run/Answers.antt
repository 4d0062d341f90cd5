-- `samplerun::run` is safe and ends: what was read is in order. Assumes nothing.
use mathlib.Core.Path.{sym}
use Prim.Native.Nat.{ℕ}
use lib.ListN.{replicate}
use Rattle.std.proofs.lemmas.List.{length-replicate}
use Rattle.format.proofs.Read.{has_read}
use Rattle.samplerun.proofs.run.Goals as goal

pub nodes-n-requires : goal.nodes-n-requires
nodes-n-requires g c = (has_read (replicate 4096 0) (sym (length-replicate {A = ℕ} 4096 0)) c.read_map.ensures c.in-Ok.is).sized
