-- `rows::pack::both` meets its contract. Assumes nothing.
use Prim.Native.Nat.{◌+◌, ◌*◌}
use Rattle.rows.specs.Row.{bit_at}
use Rattle.rows.proofs.Sixteen.{sixteen_of}
use Rattle.rows.proofs.pack.both.Goals as goal

pub returns : goal.returns
returns c =
    let a = c.args in
    sixteen_of (λ k. bit_at a.x (8 * k + a.j)) (λ k. bit_at a.y (8 * k + a.j)) c.pairs.result c.pairs-2.result
    c.pairs.ensures.1 c.pairs-2.ensures.1
