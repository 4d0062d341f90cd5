-- A test by the machine's `^`; and the rule, axis by axis and by other tests. Assumes nothing.
use mathlib.Core.Path.{◌≡◌, ap, ap₂}
use mathlib.Core.Bool.{Bool, ◌&&◌}
use Prim.Native.Nat.{ℕ, ◌+◌, ◌*◌, ◌<◌}
use native.Mathlib.Omega.{arith}
use lib.Bits.{bit_xor, xor_add_and, and_le_l, and_le_r, xor_self}
use lib.Dec.{T, eqb}
use borrow.Author.Tests.{le-leb}
use Rattle.mesh.specs.Tools.{bit, implies, all}
use Rattle.mesh.specs.Mesh.{X, Y, Z, InRange}
use Rattle.mesh.specs.Steps.{ahead, runs_down, reversed}
use Rattle.rules.specs.Marks.{useless, cant_reach, byte_of, counted, rule, byte_blocks, rule_byte}
use Rattle.mesh.specs.declared.Sizes.{Sizes}
use Rattle.mesh.proofs.Tests.{T-and, T-eq, T-all, bool_ext}
use Rattle.mesh.proofs.Steps.{dir_lt}
use Rattle.rules.proofs.Rule.{rule_same}
use Rattle.states.specs.Six.{rule_by}

-- ---- a number that is 0 where a test holds

pub xor_none : (a b : ℕ) → eqb (bit_xor a b) 0 ≡ eqb a b
xor_none a b = bool_ext (eqb (bit_xor a b) 0) (eqb a b)
    (λ t.
    let e : bit_xor a b ≡ 0 = (T-eq (bit_xor a b) 0).0 t in
    (T-eq a b).1 (omega (arith, xor_add_and a b, and_le_l a b, and_le_r a b)))
    (λ t.
    let e : a ≡ b = (T-eq a b).0 t in
    let s = xor_add_and a b in
    (T-eq (bit_xor a b) 0).1 (rw e (xor_self b)))

-- a test of six directions, axis by axis
pub all_axes : (p : ℕ → Bool) → all 6 p ≡ (p 0 && p 1) && (p 2 && p 3) && (p 4 && p 5)
unfolding all
all_axes p = bool_ext (all 6 p) ((p 0 && p 1) && (p 2 && p 3) && (p 4 && p 5))
    (λ t.
    let f = (T-all 6 p).0 t in
    simp T-and (((f 0 (omega arith), f 1 (omega arith)), (f 2 (omega arith), f 3 (omega arith))), (f 4 (omega arith), f 5 (omega arith))))
    (λ t.
    let (((q0, q1), (q2, q3)), (q4, q5)) : ((T (p 0) × T (p 1)) × (T (p 2) × T (p 3))) × (T (p 4) × T (p 5)) = simp T-and at t in
    simp T-and (q5, (q4, (q3, (q2, (q1, (q0, tt)))))))

-- ---- the rule

-- X and Y always count
pub rule_axes : (S : Sizes) → InRange S → (o : ℕ) (b : ℕ → Bool) → rule S o b
    ≡ b (ahead o X) && b (ahead o Y) && implies (counted S Z) (b (ahead o Z))
unfolding rule
rule_axes S r o b = rw (le-leb 2 S.w r.w_lo, le-leb 2 S.h r.h_lo)

-- it reads six bytes, and no more of what was heard
pub rule_six : (test : ℕ → ℕ → Bool) (S : Sizes) (o : ℕ) (f g : ℕ → ℕ) → ((j : ℕ) → j < 6 → f j ≡ g j) → rule_by test S o f ≡ rule_by test S o g
rule_six test S o f g e = ap₂ (λ (u c : Bool). 2 * bit u + 4 * bit c)
    (rule_same S o o (λ j. test 2 (f j)) (λ j. test 2 (g j)) λ a _. ap (test 2) (e (ahead o a) (dir_lt a (runs_down o a))))
    (rule_same S (reversed o) (reversed o) (λ j. test 4 (f j)) (λ j. test 4 (g j))
    λ a _. ap (test 4) (e (ahead (reversed o) a) (dir_lt a (runs_down (reversed o) a))))

-- by tests that agree with 01's on what was heard it is 01's rule
pub rule_by_lem : (test : ℕ → ℕ → Bool) (S : Sizes) (o : ℕ) (h : ℕ → ℕ) → ((j : ℕ) → j < 6 → test 2 (h j) ≡ byte_blocks (h j) useless)
    → ((j : ℕ) → j < 6 → test 4 (h j) ≡ byte_blocks (h j) cant_reach) → rule_by test S o h ≡ rule_byte S o h
unfolding rule_byte byte_of
rule_by_lem test S o h u c = ap₂ (λ (u c : Bool). 2 * bit u + 4 * bit c)
    (rule_same S o o (λ j. test 2 (h j)) (λ j. byte_blocks (h j) useless) λ a _. u (ahead o a) (dir_lt a (runs_down o a)))
    (rule_same S (reversed o) (reversed o) (λ j. test 4 (h j)) (λ j. byte_blocks (h j) cant_reach)
    λ a _. c (ahead (reversed o) a) (dir_lt a (runs_down (reversed o) a)))
