-- What a granted answer shows of its value: a place is in the mesh. Assumes nothing.
use mathlib.Core.Path.{◌≡◌, refl, subst}
use Prim.Native.Nat.{ℕ}
use native.Mathlib.Omega.{arith}
use Rattle.mesh.specs.Mesh.{InRange, Inside, place_of}
use Rattle.mesh.specs.Steps.{next}
use Rattle.mesh.specs.Answers.{answered, ◌and_then◌, check_sizes, check_node, check_place, check_direction, place_answer, step_answer, accepted, Answer}
use Rattle.mesh.proofs.Answers.{split, sizes_granted, place_granted, node_granted}
use Rattle.mesh.proofs.Numbers.{place_in}
use Rattle.mesh.proofs.Steps.{next_in}
use Rattle.mesh.specs.declared.Sizes.{Sizes}
use Rattle.mesh.specs.declared.Place.{Place}
use Rattle.std.specs.Prelude.{Ok, Err, Some, Option}

-- a value stands where every check is passed
place_stands : (a : Answer) (p q : Place) → answered a p ≡ Ok q → (a ≡ accepted) × (p ≡ q)
place_stands (Ok _) p q e = (refl, (cc))
place_stands (Err r) p q e = let z : ◌≡◌ {A = ℕ} 0 1 = cc in absurd (omega arith)

step_stands : (a : Answer) (m n : Option Place) → answered a m ≡ Ok n → (a ≡ accepted) × (m ≡ n)
step_stands (Ok _) m n e = (refl, (cc))
step_stands (Err r) m n e = let z : ◌≡◌ {A = ℕ} 0 1 = cc in absurd (omega arith)

module _ (S : Sizes) where
  pub place_inside : (k : ℕ) (p : Place) → place_answer S k ≡ Ok p → InRange S × Inside S p
  unfolding place_answer
  place_inside k p e =
      let (a, v) = place_stands (check_sizes S and_then check_node S k) (place_of S k) p e in
      let (s, i) = split (check_sizes S) (check_node S k) a in
      (sizes_granted S s, subst (Inside S) v (place_in S k (node_granted S k i)))

  pub step_inside : (p : Place) (j : ℕ) (q : Place) → step_answer S p j ≡ Ok (Some q) → InRange S × Inside S q
  unfolding step_answer
  step_inside p j q e =
      let (a, v) = step_stands (check_sizes S and_then check_place S p and_then check_direction j) (next S p j) (Some q) e in
      let (b, _) = split (check_sizes S and_then check_place S p) (check_direction j) a in
      let (s, i) = split (check_sizes S) (check_place S p) b in
      (sizes_granted S s, next_in S p q (place_granted S p i) j v)
