-- `states::six::Six::some` meets its contract: the top bit of each byte tells. Assumes nothing.
use native.Mathlib.Omega.{arith}
use Prim.Native.Nat.{◌+◌}
use lib.Bits.{bit_and, bit_or, and_le_r}
use Rattle.states.specs.Six.{byte_at}
use Rattle.states.proofs.Beside.{byte_lt, six_bytes, some_six}
use Rattle.states.proofs.six.Six.some.Goals as goal

pub returns : goal.returns
returns c =
    let b = c.args.self.bytes in
    (rw (six_bytes b c.args.self.small) at (some_six (byte_at b) (byte_lt b)), omega (arith, and_le_r (bit_or (bit_and b 140185576636287 + 140185576636287) b) 141289400074368))
