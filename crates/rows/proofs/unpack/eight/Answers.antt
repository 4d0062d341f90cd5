-- `rows::unpack::eight` meets its contract. Assumes nothing.
use Prim.Native.Nat.{◌+◌, ◌*◌, ◌<◌, ◌^◌}
use native.Mathlib.Omega.{arith}
use Rattle.rows.proofs.Unpacks.{eight_sum, eight_lt}
use Rattle.rows.proofs.unpack.eight.Goals as goal
use Rattle.rows.proofs.unpack.eight.Goals.{After-spread}

fits : (c : After-spread) → c.word.result + c.args.v * c.spread.result < 2 ^ 64
fits c =
    let a = c.args in
    eight_lt a.out.now a.down a.bits a.v a.p _ _ c.word.ensures c.spread.ensures c.requires.2

pub returns : goal.returns
returns c =
    let a = c.args in
    eight_sum a.out.now a.down a.bits a.v a.p _ _ c.word.ensures c.spread.ensures

pub overflow_mul-result : goal.overflow_mul-result
overflow_mul-result c = record { fits = omega (arith, fits (goal.at.overflow_mul-result c).After-spread) }

pub overflow_add-result : goal.overflow_add-result
overflow_add-result c = record { fits = fits (goal.at.overflow_add-result c).After-spread }
