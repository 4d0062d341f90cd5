-- `trails::spread::total` meets its contract: the sum of so many bits is no more than their number. Assumes nothing.
use mathlib.Core.Path.{◌≡◌, refl, ◌∙◌, ap}
use Prim.Native.Nat.{ℕ, ◌<◌, ◌≤◌}
use native.Mathlib.Omega.{arith}
use lib.ListN.{get_or, take, length-take}
use Rattle.std.proofs.lemmas.List.{get_or-take}
use Rattle.mesh.specs.Tools.{sum}
use Rattle.mesh.proofs.Tables.{sum_more}
use Rattle.trails.proofs.spread.total.Goals as goal
use Rattle.trails.proofs.spread.total.Goals.{In-loop-byte}

pub loop-byte-init : goal.loop-byte-init
unfolding sum
loop-byte-init c = record { is = refl; few = omega arith }

-- the byte of a turn is one of the first n, so 0 or 1
at : (c : In-loop-byte) → let k = c.loop-byte.byte-index in let a = c.args in
    (get_or (take a.n a.out.now) k 0 ≡ get_or a.out.now k 0) × (get_or a.out.now k 0 ≤ 1)
at c =
    let a = c.args in
    let k = c.loop-byte.byte-index in
    let h : k < a.n = omega (arith, length-take a.n a.out.now) in
    (get_or-take a.n a.out.now k 0 h, c.requires.2 k h)

pub overflow_add-t : goal.overflow_add-t
overflow_add-t c = omega (arith, at (goal.at.overflow_add-t c).In-loop-byte, length-take c.args.n c.args.out.now)

pub loop-byte-preserved : goal.loop-byte-preserved
loop-byte-preserved c =
    let a = c.args in
    let k = c.loop-byte.byte-index in
    let (e, b) = at (goal.at.loop-byte-preserved c).In-loop-byte in
    record { is = omega (arith, e, sum_more k (λ k. get_or a.out.now k 0)); few = omega (arith, e, b) }

pub returns : goal.returns
returns c =
    let a = c.args in
    let l = c.loop-byte in
    let e : l.byte-index ≡ a.n = omega (arith, length-take a.n a.out.now) in
    l.invariant.is ∙ ap (λ (n : ℕ). sum n (λ k. get_or a.out.now k 0)) e
