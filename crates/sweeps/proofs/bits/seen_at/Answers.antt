-- `sweeps::bits::seen_at` meets its contract. Assumes nothing.
use Prim.Native.Nat.{◌-◌}
use native.Mathlib.Omega.{arith}
use borrow.Author.Tests.{lt-ltb}
use lib.ListN.{get_or}
use Rattle.rows.proofs.Bits.{read_at}
use Rattle.sweeps.proofs.bits.seen_at.Goals as goal

pub returns : goal.returns
returns c =
    let a = c.args in
    rw (lt-ltb 0 a.left (omega arith)) (read_at (get_or a.rows.now (a.b - a.y) 0) (a.a - a.x))
