-- 01, "Routes": paths, as a relation that a person reads and as a test that computes. Assumes nothing.
use Rattle.std.specs.Prelude.{Bool, true, false, cond, ◌&&◌, ◌||◌, List, [], ◌∷◌, ◌≡◌, ℕ, zero, suc, T, Some, None, Option}
use Rattle.mesh.specs.Tools.{any}
use Rattle.mesh.specs.Mesh.{number}
use Rattle.mesh.specs.Steps.{next}
use Rattle.mesh.specs.Cells.{Map, cell_at, may_pass, may_end, linked}
use Rattle.mesh.specs.declared.Place.{Place}
use Rattle.paths.specs.Differences.{preferred, hops, same}

-- may a path to e enter the node q: as its end, or to pass
unfoldable pub may_enter : Map → Place → Place → Bool
may_enter m e q = cond (same q e) (may_end (cell_at m q)) (may_pass (cell_at m q))

-- may a path to e go from p in the direction j, which leads to q
unfoldable pub may_hop : Map → Place → Place → ℕ → Place → Bool
may_hop m e p j q = preferred p e j && linked m p j && may_enter m e q

-- "A path is a list of working nodes from start to end, each the neighbour of the one before in a preferred direction."
-- `Leads m e p q l`: preferred steps towards e lead from p to q, by the nodes with the numbers l. The first node, p, is entered from nowhere.
pub data Leads (m : Map) (e : Place) : Place → Place → List ℕ → Type 0 where
  stay : {p q : Place} → p ≡ q → Leads m e p q (number m.sizes p ∷ [])
  hop : {p r q : Place} {l : List ℕ} (j : ℕ) → next m.sizes p j ≡ Some r → T (may_hop m e p j r)
      → Leads m e r q l → Leads m e p q (number m.sizes p ∷ l)

-- a path from s to e: both may be its ends
pub record Path (m : Map) (s e : Place) (l : List ℕ) : Type 0 where
  pub start_may : T (may_end (cell_at m s))
  pub end_may : T (may_end (cell_at m e))
  pub leading : Leads m e s e l

-- A walk from p to q goes in any direction; e is where it means to end. It is a path to e if its hops are the Manhattan distance (proofs/Walks).
pub data Walk (m : Map) (e : Place) : Place → Place → List ℕ → Type 0 where
  stands : {p q : Place} → p ≡ q → Walk m e p q (number m.sizes p ∷ [])
  goes : {p r q : Place} {l : List ℕ} (j : ℕ) → next m.sizes p j ≡ Some r → T (linked m p j) → T (may_enter m e r)
      → Walk m e r q l → Walk m e p q (number m.sizes p ∷ l)

-- Paths as a test. A path to e begins at p in direction j, if `rest` finds the rest of it. (`elim`, where `&&` would compute both sides.)
abbrev pub begins_by : Map → Place → (Place → Bool) → Place → ℕ → Option Place → Bool
begins_by m e rest p j (Some r) = elim (may_hop m e p j r) [ true ↦ rest r | false ↦ false ]
begins_by m e rest p j None = false

abbrev pub begins : Map → Place → (Place → Bool) → Place → ℕ → Bool
begins m e rest p j = begins_by m e rest p j (next m.sizes p j)

-- preferred steps towards e lead from p to q, first in at most n hops, then for good: a preferred step lowers the hops by one
unfoldable pub leads_within : ℕ → Map → Place → Place → Place → Bool
leads_within zero m e q p = same p q
leads_within (suc n) m e q p = same p q || any 6 (begins m e (leads_within n m e q) p)

unfoldable pub leads : Map → Place → Place → Place → Bool
leads m e p q = leads_within (hops p e) m e q p
