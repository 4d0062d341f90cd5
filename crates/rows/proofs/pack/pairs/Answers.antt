-- `rows::pack::pairs` meets its contract. Assumes nothing.
use Prim.Native.Nat.{◌+◌, ◌/◌, ◌^◌}
use lib.Bits.{bit_and, and_le_r}
use Rattle.rows.proofs.Sixteen.{pairs_of}
use Rattle.rows.proofs.pack.pairs.Goals as goal

pub returns : goal.returns
returns c =
    let a = c.args in
    let m = bit_and (a.x / 2 ^ a.j) 0x0101_0101_0101_0101 in
    (and_le_r (m + m / 128) 0x0003_0003_0003_0003, pairs_of a.x a.j)
