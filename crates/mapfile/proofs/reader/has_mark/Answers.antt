-- `mapfile::reader::has_mark` meets its contract: below i the bytes of the mark have been found. Assumes nothing.
use mathlib.Core.List.{List}
use mathlib.Core.Bool.{true, false}
use mathlib.Core.Path.{◌≡◌, sym, ◌∙◌}
use Prim.Native.Nat.{ℕ, ◌+◌, ◌<◌}
use native.Mathlib.Omega.{arith}
use borrow.Author.Count.{below_more}
use lib.Dec.{eqb}
use lib.ListN.{get_or}
use Rattle.mesh.proofs.Tests.{T-all, T-eq, holds_true, bool_ext}
use Rattle.format.specs.Format.{file_mark, trailer_at, has_mark}
use Rattle.mapfile.proofs.reader.has_mark.Goals as goal

-- all four bytes have been found, or one of them has not
found : (file : List ℕ) → ((k : ℕ) → k < 4 → trailer_at file (8 + k) ≡ get_or file_mark k 0) → has_mark file ≡ true
unfolding has_mark
found file all_are =
    (holds_true (has_mark file)).0
    ((T-all 4 (λ i. eqb (trailer_at file (8 + i)) (get_or file_mark i 0))).1 λ k h. (T-eq (trailer_at file (8 + k)) (get_or file_mark k 0)).1 (all_are k h))

missed : (file : List ℕ) (k : ℕ) → k < 4 → (trailer_at file (8 + k) ≡ get_or file_mark k 0 → ⊥) → has_mark file ≡ false
unfolding has_mark
missed file k h n =
    bool_ext (has_mark file) false
    (λ t. n ((T-eq (trailer_at file (8 + k)) (get_or file_mark k 0)).0 ((T-all 4 (λ i. eqb (trailer_at file (8 + i)) (get_or file_mark i 0))).0 t k h)))
    (λ f. absurd f)

pub loop-i-init : goal.loop-i-init
loop-i-init c = λ k h. absurd (omega arith)

pub returns-then-trailer_at-byte : goal.returns-then-trailer_at-byte
returns-then-trailer_at-byte c =
    let file = c.args.file.now in
    sym (missed file c.loop-i.i (omega arith) λ e. c.if-trailer_at-byte.true (c.trailer_at.ensures ∙ e))

pub loop-i-preserved : goal.loop-i-preserved
loop-i-preserved c =
    let file = c.args.file.now in
    let here = sym c.trailer_at.ensures ∙ c.if-trailer_at-byte.false in
    below_more (λ k. trailer_at file (8 + k) ≡ get_or file_mark k 0) c.loop-i.i c.loop-i.invariant here

pub returns : goal.returns
returns c =
    let file = c.args.file.now in
    let e : c.loop-i.i ≡ 4 = omega arith in
    sym (found file λ k h. c.loop-i.invariant k (omega arith))
