-- `rows::pack::few` meets its contract: each turn puts one node more in front. Assumes nothing.
use mathlib.Core.Path.{sym}
use Prim.Native.Nat.{◌+◌, ◌-◌, ◌<◌}
use native.Mathlib.Omega.{arith}
use Rattle.rows.specs.Row.{says}
use Rattle.rows.proofs.Packs.{bit_lt, few_none, few_lt, few_more, few_all}
use Rattle.rows.proofs.pack.few.Goals.{In-loop-k}
use Rattle.rows.proofs.pack.few.Goals as goal

small : (c : In-loop-k) → c.loop-k.bits < 32768
small c =
    let a = c.args in
    let l = c.loop-k in
    few_lt (λ i. says a.cells.now a.j a.down a.from (l.k + i)) a.w l.bits (a.w - l.k) l.invariant (omega arith)

pub loop-k-init : goal.loop-k-init
loop-k-init c = let a = c.args in sym (few_none (λ i. says a.cells.now a.j a.down a.from (a.w + i)) a.w 0)

pub overflow_mul-bits : goal.overflow_mul-bits
overflow_mul-bits c = record { fits = omega (arith, small (goal.at.overflow_mul-bits c).In-loop-k) }

pub overflow_add-bits : goal.overflow_add-bits
overflow_add-bits c =
    let a = c.args in
    let b : c.one.result < 2 = rw c.one.ensures (bit_lt (says a.cells.now a.j a.down a.from (c.loop-k.k - 1))) in
    record { fits = omega (arith, small (goal.at.overflow_add-bits c).In-loop-k) }

pub loop-k-preserved : goal.loop-k-preserved
loop-k-preserved c =
    let a = c.args in
    let l = c.loop-k in
    few_more (says a.cells.now a.j a.down a.from) a.w l.bits l.k c.one.result (omega arith) (omega arith) l.invariant c.one.ensures

pub returns : goal.returns
returns c =
    let a = c.args in
    let l = c.loop-k in
    few_all (says a.cells.now a.j a.down a.from) a.w l.bits l.k (omega arith) l.invariant
