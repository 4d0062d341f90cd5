-- Impostors: what no function that keeps the promise of the components does, by what it forces on case 10 of 01. Assumes nothing.
use mathlib.Core.Path.{◌≡◌, ap}
use mathlib.Core.Logic.{◌≢◌}
use mathlib.Core.List.{List, [], ◌∷◌}
use Prim.Native.Nat.{ℕ}
use native.Mathlib.Omega.{arith}
use lib.ListN.{get_or, replicate}
use Rattle.mesh.specs.Tools.{table}
use Rattle.mesh.specs.Mesh.{sizes, in_range}
use Rattle.mesh.specs.Steps.{next}
use Rattle.mesh.specs.Cells.{faulty_cell, bad_cell, wall, first_bad}
use Rattle.rules.specs.Marks.{rule, marked, stuck_within, stuck, byte_of, mark_at, marks_of}
use Rattle.mesh.specs.Answers.{check_map}
use Rattle.touching.specs.Lists.{any_of, keep, least, greatest}
use Rattle.touching.specs.Touch.{unsafe_nodes, touch, grown, component}
use Rattle.touching.specs.Components.{lowest, lowest_nodes, number_among, table_of, record_of, records_of, how_many}
use Rattle.touching.specs.Entry.{components_check, components_answer, table_written, row_written}
use Rattle.touching.specs.Call.{ComponentsPromise}
use Rattle.touching.specs.declared.Component.{Component}
use Rattle.touching.proofs.Call.{components_promise, components_only}

-- "3 × 3 × 1 with (1,0), (0,1), (2,1), (1,2) faulty": one component of seven; nine working nodes: none
abbrev pub cross : List ℕ
cross = 0 ∷ 1 ∷ 0 ∷ 1 ∷ 0 ∷ 1 ∷ 0 ∷ 1 ∷ 0 ∷ []

abbrev pub working : List ℕ
working = replicate 9 0

-- what is lent: numbers and a record that are no answer
abbrev pub lent : List ℕ
lent = replicate 9 9

abbrev pub nothing : Component
nothing = record { count = 9; x0 = 9; y0 = 9; z0 = 9; x1 = 9; y1 = 9; z1 = 9 }

-- an outcome that keeps the promise: refusal, bad cell and count, the table and the row as the call returns
abbrev On : List ℕ → ℕ → ℕ → ℕ → List ℕ → List Component → Type 0
On cells = ComponentsPromise (sizes 3 3 1) cells 0 lent (nothing ∷ [])

-- what it forces
on_cross : (n b v : ℕ) (t : List ℕ) (r : List Component) → On cross n b v t r
    → (n ≡ 0) × ((v ≡ 1) × (t ≡ 1 ∷ 1 ∷ 0 ∷ 1 ∷ 1 ∷ 1 ∷ 0 ∷ 1 ∷ 1 ∷ [])
    × (r ≡ record { count = 7; x0 = 0; y0 = 0; z0 = 0; x1 = 2; y1 = 2; z1 = 0 } ∷ []))
unfolding table in_range next faulty_cell bad_cell wall first_bad rule marked stuck_within stuck byte_of mark_at marks_of check_map
    any_of keep least greatest unsafe_nodes touch grown component lowest lowest_nodes number_among table_of record_of records_of how_many
    components_check components_answer table_written row_written
on_cross n b v t r a =
    let (e, _, f) = components_only (sizes 3 3 1) cross 0 lent (nothing ∷ []) n 0 b 0 v 1 t _ r _ a (components_promise (sizes 3 3 1) cross 0 lent (nothing ∷ [])) in
    (e, f)

on_working : (n b v : ℕ) (t : List ℕ) (r : List Component) → On working n b v t r → v ≡ 0
unfolding table in_range next faulty_cell bad_cell wall first_bad rule marked stuck_within stuck byte_of mark_at marks_of check_map
    any_of keep least greatest unsafe_nodes touch grown component lowest lowest_nodes number_among table_of record_of records_of how_many
    components_check components_answer table_written row_written
on_working n b v t r a = (components_only (sizes 3 3 1) working 0 lent (nothing ∷ []) n 0 b 0 v 0 t _ r _ a (components_promise (sizes 3 3 1) working 0 lent (nothing ∷ []))).2.0

-- one that refuses everything
pub not_refusing : (n b v : ℕ) (t : List ℕ) (r : List Component) → On cross n b v t r → n ≢ 0 → ⊥
not_refusing n b v t r a refused = refused (on_cross n b v t r a).0

-- one with a constant reply
pub not_constant : (n b v : ℕ) (t u : List ℕ) (r q : List Component) → On cross n b v t r → On working n b v u q → ⊥
not_constant n b v t u r q x y = let e = (on_cross n b v t r x).1.0 in let f = on_working n b v u q y in omega arith

-- one that leaves its table untouched, and one that leaves its row untouched
pub not_untouched : (n b v : ℕ) (r : List Component) → On cross n b v lent r → ⊥
not_untouched n b v r a =
    let z : ◌≡◌ {A = ℕ} 9 1 = ap (λ (l : List ℕ). get_or l 0 0) (on_cross n b v lent r a).1.1 in
    omega arith

pub not_untouched_row : (n b v : ℕ) (t : List ℕ) → On cross n b v t (nothing ∷ []) → ⊥
not_untouched_row n b v t a =
    let z : ◌≡◌ {A = ℕ} 9 7 = ap (λ (l : List Component). (get_or l 0 nothing).count) (on_cross n b v t (nothing ∷ []) a).1.2 in
    omega arith
