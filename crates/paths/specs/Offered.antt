-- 01, "Routes": the offered set and the route; and what is reached on the way, the witness of a refusal. Assumes nothing.
use Rattle.std.specs.Prelude.{Bool, true, false, List, [], ◌∷◌, ◌≡◌, ℕ, zero, suc, ◌*◌, ◌^◌, ◌<◌, T, Some, None, Option}
use Rattle.mesh.specs.Tools.{bit, sum, count, table}
use Rattle.mesh.specs.Mesh.{nodes, number, place_of}
use Rattle.mesh.specs.Steps.{next}
use Rattle.mesh.specs.Cells.{Map}
use Rattle.mesh.specs.declared.Place.{Place}
use Rattle.paths.specs.Differences.{hops}
use Rattle.paths.specs.Paths.{begins, leads}

-- "a path to the end begins that way": from p in direction j
unfoldable pub offers : Map → Place → Place → ℕ → Bool
offers m e p j = begins m e (λ r. leads m e r e) p j

-- "The offered set at a node is a byte with bit k for direction k."
unfoldable pub offered : Map → Place → Place → ℕ
offered m e p = sum 6 λ j. bit (offers m e p j) * 2 ^ j

-- the lowest of 0 .. n - 1 that passes a test, or n
unfoldable pub lowest : ℕ → (ℕ → Bool) → ℕ
lowest zero t = zero
lowest (suc n) t = elim (t 0) [ true ↦ 0 | false ↦ suc (lowest n λ k. t (suc k)) ]

-- "The route written is the path that takes the lowest-numbered offered direction at each node", p with the n hops that are left
abbrev pub onward : (Place → List ℕ) → Option Place → List ℕ
onward rest (Some r) = rest r
onward rest None = []

unfoldable pub route_within : ℕ → Map → Place → Place → List ℕ
route_within zero m e p = number m.sizes p ∷ []
route_within (suc n) m e p = number m.sizes p ∷ onward (route_within n m e) (next m.sizes p (lowest 6 (offers m e p)))

unfoldable pub route : Map → Place → Place → List ℕ
route m e p = route_within (hops p e) m e p

-- The same as a relation: the nodes l lead from p to e, in the lowest-numbered offered direction at each node.
pub data Lowest (m : Map) (e : Place) : Place → List ℕ → Type 0 where
  ends : {p : Place} → p ≡ e → Lowest m e p (number m.sizes p ∷ [])
  takes : {p r : Place} {l : List ℕ} (j : ℕ) → T (offers m e p j) → ((k : ℕ) → k < j → T (offers m e p k) → ⊥)
      → next m.sizes p j ≡ Some r → Lowest m e r l → Lowest m e p (number m.sizes p ∷ l)

-- one byte for each node: 1 where preferred steps towards the end lead from the start to it; and how many they are
abbrev pub reached_at : Map → Place → Place → ℕ → Bool
reached_at m s e k = leads m e s (place_of m.sizes k)

unfoldable pub reached : Map → Place → Place → List ℕ
reached m s e = table (λ k. bit (reached_at m s e k)) (nodes m.sizes)

unfoldable pub reached_count : Map → Place → Place → ℕ
reached_count m s e = count (nodes m.sizes) (reached_at m s e)
