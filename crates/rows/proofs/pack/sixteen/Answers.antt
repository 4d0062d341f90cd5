-- `rows::pack::sixteen` meets its contract: twice eight. Assumes nothing.
use mathlib.Core.Path.{ap, ◌∙◌}
use Prim.Native.Nat.{◌+◌, ◌-◌}
use native.Mathlib.Omega.{arith}
use lib.ListN.{get_or}
use Rattle.rows.proofs.Words.{twice}
use Rattle.rows.proofs.pack.sixteen.Goals as goal

pub returns-then-down : goal.returns-then-down
returns-then-down c =
    let a = c.args in
    let cells = a.cells.now in
    rw c.if-down.true
    (c.both.ensures
    ∙ twice (λ k. get_or cells (a.from - k) 0) (λ k. (c.type_inv.cells (a.from - k)).fits) a.j c.requires.0 _ _ c.back.ensures
    (λ k. get_or cells (a.from - 8 - k) 0) c.back-then-down.ensures (λ k. ap (λ i. get_or cells i 0) (omega arith)))

pub returns : goal.returns
returns c =
    let a = c.args in
    let cells = a.cells.now in
    rw c.if-down.false
    (c.both-2.ensures
    ∙ twice (λ k. get_or cells (a.from + k) 0) (λ k. (c.type_inv.cells (a.from + k)).fits) a.j c.requires.0 _ _ c.word.ensures
    (λ k. get_or cells (a.from + 8 + k) 0) c.word-2.ensures (λ k. ap (λ i. get_or cells i 0) (omega arith)))
