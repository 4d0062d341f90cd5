-- Impostors: what no function that keeps the promise of the marks does, by what it forces on case 10 of 01. Assumes nothing.
use mathlib.Core.Path.{◌≡◌, sym, ap, ◌∙◌}
use mathlib.Core.Logic.{◌≢◌}
use mathlib.Core.List.{List, [], ◌∷◌}
use Prim.Native.Nat.{ℕ}
use native.Mathlib.Omega.{arith}
use lib.ListN.{get_or, replicate}
use Rattle.mesh.specs.Tools.{table}
use Rattle.mesh.specs.Mesh.{sizes, in_range}
use Rattle.mesh.specs.Steps.{next}
use Rattle.mesh.specs.Cells.{faulty_cell, bad_cell, wall, first_bad}
use Rattle.rules.specs.Marks.{rule, marked, stuck_within, stuck, byte_of, mark_at, marks_of}
use Rattle.mesh.specs.Answers.{check_map}
use Rattle.rules.specs.Entry.{marks_answer, marks_written}
use Rattle.rules.specs.Promise.{MarksPromise}
use Rattle.rules.proofs.Promise.{marks_promise, marks_only}

-- "3 × 3 × 1 with (1,0), (0,1), (2,1), (1,2) faulty"; nine working nodes; lent bytes that are no marks
abbrev cross : List ℕ
cross = 0 ∷ 1 ∷ 0 ∷ 1 ∷ 0 ∷ 1 ∷ 0 ∷ 1 ∷ 0 ∷ []

abbrev working : List ℕ
working = replicate 9 0

abbrev lent : List ℕ
lent = replicate 9 9

abbrev On : List ℕ → ℕ → ℕ → List ℕ → Type 0
On cells = MarksPromise (sizes 3 3 1) cells 0 lent

-- what the promise forces on case 10, on nine working nodes, and on a mesh that is too narrow
on_cross : (n b : ℕ) (new : List ℕ) → On cross n b new → (n ≡ 0) × (new ≡ 2 ∷ 1 ∷ 0 ∷ 1 ∷ 6 ∷ 1 ∷ 0 ∷ 1 ∷ 4 ∷ [])
unfolding table in_range next faulty_cell bad_cell wall first_bad rule marked stuck_within stuck byte_of mark_at marks_of check_map marks_answer marks_written
on_cross n b new a = let (e, _, f) = marks_only (sizes 3 3 1) cross 0 lent n 0 b 0 new _ a (marks_promise (sizes 3 3 1) cross 0 lent) in (e, f)

on_working : (n b : ℕ) (new : List ℕ) → On working n b new → new ≡ working
unfolding table in_range next faulty_cell bad_cell wall first_bad rule marked stuck_within stuck byte_of mark_at marks_of check_map marks_answer marks_written
on_working n b new a = (marks_only (sizes 3 3 1) working 0 lent n 0 b 0 new _ a (marks_promise (sizes 3 3 1) working 0 lent)).2

on_narrow : (n b : ℕ) (new : List ℕ) → MarksPromise (sizes 1 9 1) cross 0 lent n b new → n ≡ 1
unfolding in_range check_map marks_answer
on_narrow n b new a = (marks_only (sizes 1 9 1) cross 0 lent n 1 b 0 new _ a (marks_promise (sizes 1 9 1) cross 0 lent)).0

-- one that refuses everything
pub not_refusing : (n b : ℕ) (new : List ℕ) → On cross n b new → n ≢ 0 → ⊥
not_refusing n b new a refused = refused (on_cross n b new a).0

-- one with a constant reply
pub not_constant : (n b : ℕ) (l k : List ℕ) → On cross n b l → MarksPromise (sizes 1 9 1) cross 0 lent n b k → ⊥
not_constant n b l k a c = let e = (on_cross n b l a).0 in let f = on_narrow n b k c in omega arith

-- one that writes the same marks whenever it grants
pub not_constant_marks : (n m b c : ℕ) (l : List ℕ) → On cross n b l → On working m c l → ⊥
not_constant_marks n m b c l x y =
    let z : ◌≡◌ {A = ℕ} 2 0 = ap (λ (l : List ℕ). get_or l 0 0) (sym (on_cross n b l x).1 ∙ on_working m c l y) in
    omega arith

-- one that leaves its output untouched
pub not_untouched : (n b : ℕ) → On cross n b lent → ⊥
not_untouched n b a =
    let z : ◌≡◌ {A = ℕ} 9 2 = ap (λ (l : List ℕ). get_or l 0 0) (on_cross n b lent a).1 in
    omega arith
