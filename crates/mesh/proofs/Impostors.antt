-- Impostors: what no function that keeps the promise of the calls on places does, by what it forces on 3 × 4 × 5, whose sizes all differ, and on
-- map P's 5 × 5 × 1. Assumes nothing.
use mathlib.Core.Path.{◌≡◌, refl, ap}
use mathlib.Core.Logic.{◌≢◌}
use mathlib.Core.Bool.{not}
use Prim.Native.Nat.{ℕ, ◌+◌}
use native.Mathlib.Omega.{arith}
use lib.Dec.{T}
use Rattle.mesh.specs.Mesh.{sizes, place, in_range, nodes, inside, number}
use Rattle.mesh.specs.Steps.{next}
use Rattle.mesh.specs.Answers.{number_answer, place_answer, step_answer}
use Rattle.mesh.specs.Promise.{NumberPromise, PlacePromise, StepPromise}
use Rattle.mesh.specs.declared.Sizes.{Sizes}
use Rattle.mesh.specs.declared.Place.{Place}
use Rattle.mesh.proofs.Promise.{number_promise, number_only, place_promise, place_only, step_promise, step_only}
use Rattle.std.specs.Prelude.{None}

abbrev unlike : Sizes
unlike = sizes 3 4 5

abbrev flat : Sizes
flat = sizes 5 5 1

-- ---- the number of a place: a refusal and a value for each question

module _ (refusal value : Sizes → Place → ℕ) (keeps : (S : Sizes) (p : Place) → NumberPromise S p (refusal S p) (value S p)) where
  inner : (refusal unlike (place 1 2 2) ≡ 0) × (value unlike (place 1 2 2) ≡ 31)
  unfolding number_answer in_range inside
  inner = number_only unlike (place 1 2 2) _ 0 _ 31 (keeps unlike (place 1 2 2)) (number_promise unlike (place 1 2 2))

  mirrored : value unlike (place 2 1 2) ≡ 29
  unfolding number_answer in_range inside
  mirrored = (number_only unlike (place 2 1 2) _ 0 _ 29 (keeps unlike (place 2 1 2)) (number_promise unlike (place 2 1 2))).1

  both_wrong : refusal (sizes 5 17 1) (place 0 17 0) ≡ 1
  unfolding number_answer in_range inside
  both_wrong = (number_only (sizes 5 17 1) (place 0 17 0) _ 1 _ 0 (keeps (sizes 5 17 1) (place 0 17 0)) (number_promise (sizes 5 17 1) (place 0 17 0))).0

  pub number_refusing : ((S : Sizes) (p : Place) → refusal S p ≢ 0) → ⊥
  number_refusing f = f unlike (place 1 2 2) inner.0

  pub number_constant : (v : ℕ) → ((S : Sizes) (p : Place) → value S p ≡ v) → ⊥
  number_constant v f = let a = f unlike (place 1 2 2) in let b = f unlike (place 2 1 2) in omega (arith, inner.1, mirrored)

  -- x and y exchanged; 5 before 1
  pub number_exchanged : ((x y z : ℕ) → value unlike (place x y z) ≡ value unlike (place y x z)) → ⊥
  number_exchanged f = let e = f 1 2 2 in omega (arith, inner.1, mirrored)

  pub number_place_first : ((S : Sizes) (p : Place) → T (not (inside S p)) → refusal S p ≡ 5) → ⊥
  unfolding inside
  number_place_first f = let e = f (sizes 5 17 1) (place 0 17 0) tt in omega (arith, both_wrong)

-- ---- the place of a node: a refusal and a place for each question

module _ (refusal : Sizes → ℕ → ℕ) (at : Sizes → ℕ → Place)
    (keeps : (S : Sizes) (k : ℕ) → PlacePromise S k (refusal S k) (at S k).x (at S k).y (at S k).z) where
  found : (refusal unlike 31 ≡ 0) × (place (at unlike 31).x (at unlike 31).y (at unlike 31).z ≡ place 1 2 2)
  unfolding place_answer in_range
  found = place_only unlike 31 _ 0 _ _ _ 1 2 2 (keeps unlike 31) (place_promise unlike 31)

  last : place (at flat 24).x (at flat 24).y (at flat 24).z ≡ place 4 4 0
  unfolding place_answer in_range
  last = (place_only flat 24 _ 0 _ _ _ 4 4 0 (keeps flat 24) (place_promise flat 24)).1

  past : refusal flat 25 ≡ 5
  unfolding place_answer in_range
  past = (place_only flat 25 _ 5 _ _ _ 0 0 0 (keeps flat 25) (place_promise flat 25)).0

  pub place_refusing : ((S : Sizes) (k : ℕ) → refusal S k ≢ 0) → ⊥
  place_refusing f = f unlike 31 found.0

  pub place_constant : (p : Place) → ((S : Sizes) (k : ℕ) → at S k ≡ p) → ⊥
  place_constant p f =
      let a = ap (λ (q : Place). q.x) (f unlike 31) in
      let b = ap (λ (q : Place). q.x) (f flat 24) in
      let c : (at unlike 31).x ≡ 1 = ap (λ (q : Place). q.x) found.1 in
      let d : (at flat 24).x ≡ 4 = ap (λ (q : Place). q.x) last in
      omega arith

  -- the place of the next node; N taken for a node
  pub place_next : ((S : Sizes) (k : ℕ) → refusal S k ≡ 0 → number S (at S k) ≡ k + 1) → ⊥
  place_next f =
      let e = f unlike 31 found.0 in
      let g : number unlike (at unlike 31) ≡ 31 = ((keeps unlike 31).placed found.0).1 in
      omega arith

  pub place_past : ((S : Sizes) → refusal S (nodes S) ≡ 0) → ⊥
  place_past f = let e = f flat in omega (arith, past)

-- ---- a step: a refusal, whether there is a place, and the place

module _ (refusal there : Sizes → Place → ℕ → ℕ) (at : Sizes → Place → ℕ → Place)
    (keeps : (S : Sizes) (p : Place) (j : ℕ) → StepPromise S p j (refusal S p j) (there S p j) (at S p j).x (at S p j).y (at S p j).z) where
  goes : (refusal unlike (place 1 2 2) 3 ≡ 0) × (there unlike (place 1 2 2) 3 ≡ 1)
      × (place (at unlike (place 1 2 2) 3).x (at unlike (place 1 2 2) 3).y (at unlike (place 1 2 2) 3).z ≡ place 1 1 2)
  unfolding step_answer in_range inside next
  goes = step_only unlike (place 1 2 2) 3 _ 0 _ 1 _ _ _ 1 1 2 (keeps unlike (place 1 2 2) 3) (step_promise unlike (place 1 2 2) 3)

  edge : (refusal flat (place 4 0 0) 0 ≡ 0) × (there flat (place 4 0 0) 0 ≡ 0)
  unfolding step_answer in_range inside next
  edge = let (a, b, _) = step_only flat (place 4 0 0) 0 _ 0 _ 0 _ _ _ 0 0 0 (keeps flat (place 4 0 0) 0) (step_promise flat (place 4 0 0) 0) in (a, b)

  pub step_refusing : ((S : Sizes) (p : Place) (j : ℕ) → refusal S p j ≢ 0) → ⊥
  step_refusing f = f unlike (place 1 2 2) 3 goes.0

  pub step_constant : (t : ℕ) → ((S : Sizes) (p : Place) (j : ℕ) → there S p j ≡ t) → ⊥
  step_constant t f = let a = f unlike (place 1 2 2) 3 in let b = f flat (place 4 0 0) 0 in omega (arith, goes.1, edge.1)

  -- the mesh's end as a refusal; a step that goes through it; one that stays where it is
  pub step_end_refused : ((S : Sizes) (p : Place) (j : ℕ) → next S p j ≡ None → refusal S p j ≢ 0) → ⊥
  unfolding next
  step_end_refused f = f flat (place 4 0 0) 0 refl edge.0

  pub step_through : ((S : Sizes) (p : Place) (j : ℕ) → refusal S p j ≡ 0 → there S p j ≡ 1) → ⊥
  step_through f = let e = f flat (place 4 0 0) 0 edge.0 in omega (arith, edge.1)

  pub step_staying : ((S : Sizes) (p : Place) (j : ℕ) → at S p j ≡ p) → ⊥
  step_staying f =
      let e : (at unlike (place 1 2 2) 3).y ≡ 2 = ap (λ (q : Place). q.y) (f unlike (place 1 2 2) 3) in
      let g : (at unlike (place 1 2 2) 3).y ≡ 1 = ap (λ (q : Place). q.y) goes.2 in
      omega arith
