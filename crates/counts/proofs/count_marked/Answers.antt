-- `counts::count_marked` meets its contract: n of the first bytes have the mark. Assumes nothing.
use mathlib.Core.Path.{◌≡◌, ap, ◌∙◌}
use Prim.Native.Nat.{ℕ, ◌/◌, ◌%◌}
use native.Mathlib.Omega.{arith}
use lib.Dec.{eqb}
use lib.ListN.{length, get_or}
use Rattle.mesh.specs.Tools.{bit, count}
use Rattle.mesh.proofs.Bits.{bit_of}
use Rattle.counts.proofs.Tally.{none, one_more}
use Rattle.counts.proofs.count_marked.Invariants.{marked}
use Rattle.counts.proofs.count_marked.Goals as goal

-- a remainder by 2 is the bit of its test
remainder : (n : ℕ) → n % 2 ≡ bit (eqb (n % 2) 1)
remainder n = bit_of (n % 2) (omega arith)

pub loop-byte-init : goal.loop-byte-init
loop-byte-init c = none _

pub loop-byte-preserved : goal.loop-byte-preserved
loop-byte-preserved c =
    let l = c.loop-byte in
    let a = c.args in
    one_more (marked a.marks.now a.mark) l.byte-index l.n _ l.invariant (remainder (get_or a.marks.now l.byte-index 0 / a.mark))

pub returns : goal.returns
returns c =
    let l = c.loop-byte in
    let a = c.args in
    let e : l.byte-index ≡ length a.marks.now = omega arith in
    l.invariant.is ∙ ap (λ (k : ℕ). count k (marked a.marks.now a.mark)) e
