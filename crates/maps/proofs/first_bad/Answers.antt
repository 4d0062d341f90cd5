-- `maps::first_bad` meets its contract: k is the number of the node that the three loops are at, and no cell below k is bad.
-- Assumes nothing.
use mathlib.Core.Path.{◌≡◌, sym, ◌∙◌, ap}
use mathlib.Core.Bool.{false}
use Prim.Native.Nat.{ℕ, ◌+◌, ◌*◌, ◌<◌}
use native.Mathlib.Nat.{zero-add, mul-zero}
use native.Mathlib.Omega.{arith}
use borrow.Author.Count.{below_none, below_more}
use lib.ListN.{length, get_or}
use Rattle.mesh.specs.Cells.{bad_cell}
use Rattle.mesh.proofs.Answers.{first_is}
use Rattle.mesh.proofs.Numbers.{digit_lt, row_end, layer_end}
use Rattle.maps.proofs.first_bad.Goals as goal
use Rattle.maps.proofs.first_bad.Goals.{In-loop-x}

-- the node that the loops are at is one of the map's
in_map : (c : In-loop-x) →
    c.loop-x.k < length c.args.cells.now
in_map c =
    rw (c.requires, c.loop-x.invariant.1)
    (digit_lt c.loop-x-test.true (digit_lt c.loop-y-test.true c.scan-test.true))

pub scan-init : goal.scan-init
scan-init c =
    let a = c.args in
    let zero_is = ap (λ (j : ℕ). a.s.w * j) (mul-zero a.s.h) ∙ mul-zero a.s.w in
    (omega arith, sym zero_is, below_none (λ j. bad_cell a.s j (get_or a.cells.now j 0) ≡ false))

pub loop-y-init : goal.loop-y-init
loop-y-init c =
    let s = c.args.s in
    let l = c.scan in
    (omega arith, l.invariant.1 ∙ ap (λ (j : ℕ). s.w * j) (sym (zero-add (s.h * l.z))), l.invariant.2)

pub loop-x-init : goal.loop-x-init
loop-x-init c = let l = c.loop-y in (omega arith, l.invariant.1 ∙ sym (zero-add _), l.invariant.2)

pub bounds-cells-k : goal.bounds-cells-k
bounds-cells-k c = in_map (goal.at.bounds-cells-k c).In-loop-x

pub overflow_add-k : goal.overflow_add-k
overflow_add-k c = omega (arith, in_map (goal.at.overflow_add-k c).In-loop-x)

pub loop-x-preserved : goal.loop-x-preserved
loop-x-preserved c =
    let l = c.loop-x in
    let a = c.args in
    let here = sym c.bad_cell.ensures ∙ c.if-bad_cell.false in
    (omega arith, omega arith, below_more (λ j. bad_cell a.s j (get_or a.cells.now j 0) ≡ false) l.k l.invariant.2 here)

pub loop-y-preserved : goal.loop-y-preserved
loop-y-preserved c =
    let l = c.loop-x in
    let s = c.args.s in
    let y = c.loop-y.y in
    let z = c.scan.z in
    let e : l.x ≡ s.w = omega arith in
    (omega arith, l.invariant.1 ∙ ap (λ (j : ℕ). j + s.w * (y + s.h * z)) e ∙ row_end s.w s.h y z, l.invariant.2)

pub scan-preserved : goal.scan-preserved
scan-preserved c =
    let l = c.loop-y in
    let s = c.args.s in
    let z = c.scan.z in
    let e : l.y ≡ s.h = omega arith in
    (omega arith, l.invariant.1 ∙ ap (λ (j : ℕ). s.w * (j + s.h * z)) e ∙ layer_end s.w s.h z, l.invariant.2)

pub returns-after-scan : goal.returns-after-scan
returns-after-scan c =
    let l = c.scan in
    let a = c.args in
    let e : l.z ≡ a.s.d = omega arith in
    let n : l.k ≡ length a.cells.now = l.invariant.1 ∙ ap (λ (j : ℕ). a.s.w * (a.s.h * j)) e ∙ sym c.requires in
    sym (first_is (bad_cell a.s) a.cells.now l.k (omega arith) l.invariant.2 (λ h. absurd (omega arith)))

pub returns-then-bad_cell : goal.returns-then-bad_cell
returns-then-bad_cell c =
    let l = c.loop-x in
    let a = c.args in
    let here = sym c.bad_cell.ensures ∙ c.if-bad_cell.true in
    sym (first_is (bad_cell a.s) a.cells.now l.k (omega (arith, in_map (goal.at.returns-then-bad_cell c).In-loop-x)) l.invariant.2 (λ h. here))
