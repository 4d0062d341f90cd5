-- `rows::pack::some` meets its contract. Assumes nothing.
use mathlib.Core.Path.{◌≡◌}
use Prim.Native.Nat.{◌-◌, ◌/◌, ◌^◌}
use native.Mathlib.Omega.{arith}
use lib.Bits.{and_mask}
use Rattle.rows.proofs.pack.some.Goals as goal

pub returns : goal.returns
returns c =
    let a = c.args in
    let e : c.full.result ≡ 2 ^ a.w - 1 = omega arith in
    rw e (and_mask (a.bits / 2 ^ a.i) a.w)
