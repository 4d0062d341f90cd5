-- What is promised of the calls on places, in their numbers: 01, "Size and numbering". Assumes nothing.
use Rattle.std.specs.Prelude.{[], ◌∷◌, ◌≢◌, ◌≡◌, ℕ, ◌+◌, ◌*◌, ◌<◌, ◌≤◌, pos, ◌+ℤ◌}
use Rattle.mesh.specs.Mesh.{InRange, nodes, Inside, place, number}
use Rattle.mesh.specs.Steps.{step_of}
use Rattle.mesh.specs.Order.{◌else◌, ◌give◌}
use Rattle.mesh.specs.declared.Sizes.{Sizes}
use Rattle.mesh.specs.declared.Place.{Place}

-- The number of a place: refused by 1 and 5. "Node (x, y, z) has number x + W × (y + H × z)."
pub record NumberPromise (S : Sizes) (p : Place) (refusal n : ℕ) : Type 0 where
  pub order : InRange S else 1 ∷ Inside S p else 5 ∷ [] give refusal
  pub numbered : refusal ≡ 0 → n ≡ p.x + S.w * (p.y + S.h * p.z)
  pub nothing : refusal ≢ 0 → n ≡ 0

-- The place of node k: refused by 1 and 5; else the place in the mesh that has the number k.
pub record PlacePromise (S : Sizes) (k : ℕ) (refusal x y z : ℕ) : Type 0 where
  pub order : InRange S else 1 ∷ (k < nodes S) else 5 ∷ [] give refusal
  pub placed : refusal ≡ 0 → Inside S (place x y z) × (number S (place x y z) ≡ k)
  pub nothing : refusal ≢ 0 → (x ≡ 0) × (y ≡ 0) × (z ≡ 0)

-- from p to q is the step of direction j, by the table of signed triples
pub record OneStep (p : Place) (j : ℕ) (q : Place) : Type 0 where
  pub on_x : pos q.x ≡ pos p.x +ℤ step_of j 0
  pub on_y : pos q.y ≡ pos p.y +ℤ step_of j 1
  pub on_z : pos q.z ≡ pos p.z +ℤ step_of j 2

-- A step from p in direction j: refused by 1 and 5; "gives the next place, or says that the mesh ends there".
pub record StepPromise (S : Sizes) (p : Place) (j : ℕ) (refusal there x y z : ℕ) : Type 0 where
  pub order : InRange S else 1 ∷ Inside S p else 5 ∷ (j ≤ 5) else 5 ∷ [] give refusal
  pub led : refusal ≡ 0 → there ≡ 1 → Inside S (place x y z) × OneStep p j (place x y z)
  pub ends : refusal ≡ 0 → there ≢ 1 → (q : Place) → Inside S q → OneStep p j q → ⊥
  -- where it does not lead on, and on a refusal, every value is 0
  pub nowhere : there ≢ 1 → (there ≡ 0) × (x ≡ 0) × (y ≡ 0) × (z ≡ 0)
  pub nothing : refusal ≢ 0 → (there ≡ 0) × (x ≡ 0) × (y ≡ 0) × (z ≡ 0)
