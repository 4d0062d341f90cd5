-- What is reached, the witness of a refusal: the start is; the end is exactly if a path exists; a preferred step from a reached node leads
-- to a reached node or to one that may not be used; and any set of nodes so closed that lacks the end refuses every path. Assumes nothing.
use mathlib.Core.Path.{◌≡◌, refl, subst}
use mathlib.Core.Logic.{◌↔◌, ◌⊎◌, inl, inr}
use mathlib.Core.Bool.{Bool}
use mathlib.Core.List.{List}
use Prim.Native.Nat.{ℕ, ◌<◌}
use lib.ListN.{length, get_or}
use lib.Dec.{T}
use Rattle.mesh.specs.Tools.{bit}
use Rattle.mesh.specs.Mesh.{Inside, nodes, number}
use Rattle.mesh.specs.Steps.{next}
use Rattle.mesh.specs.Cells.{Map, cell_at, may_end}
use Rattle.mesh.proofs.Tables.{length_table, get_d_table}
use Rattle.mesh.proofs.Numbers.{number_lt, place_of_lem}
use Rattle.mesh.proofs.Steps.{next_in}
use Rattle.mesh.specs.declared.Place.{Place}
use Rattle.paths.specs.Paths.{may_hop, Leads, stay, hop, Path, leads}
use Rattle.paths.specs.Offered.{reached_at, reached}
use Rattle.paths.proofs.Paths.{leads_iff, path_iff}
use Rattle.paths.proofs.Offered.{bit_one}
use Rattle.std.specs.Prelude.{Some}

module _ (m : Map) (e : Place) where
  one_more : {s p : Place} {l : List ℕ} → Leads m e s p l → (r : Place) (j : ℕ) → next m.sizes p j ≡ Some r → T (may_hop m e p j r)
      → (k : List ℕ) × Leads m e s r k
  one_more {s} {p} (stay f) r j h y = (_, hop {p = s} {r = r} j (rw f h) (rw f y) (stay refl))
  one_more (hop i g z L) r j h y = let (k, K) = one_more L r j h y in (_, hop {l = k} i g z K)

  last_hop : {s r : Place} {l : List ℕ} → Leads m e s r l
      → (s ≡ r) ⊎ ((p : Place) × (j : ℕ) × (k : List ℕ) × Leads m e s p k × (next m.sizes p j ≡ Some r) × T (may_hop m e p j r))
  last_hop (stay f) = inl f
  last_hop {s} {r} (hop {r = q} i g z L) = elim (last_hop L) [
    | inl f ↦ inr (s, i, _, stay refl, rw (← f) g, rw (← f) z)
    | inr w ↦ let (p, j, k, K, h, y) = w in inr (p, j, _, hop {l = k} i g z K, h, y)
  ]

  module _ (s : Place) (i : Inside m.sizes s) where
    pub start_reached : T (leads m e s s)
    start_reached = (leads_iff m e s s i).1 (_, stay refl)

    -- "a preferred step from a node with 1 leads to a node with 1 or to one that may not be used"
    pub reached_on : (p r : Place) (j : ℕ) → T (leads m e s p) → next m.sizes p j ≡ Some r → T (may_hop m e p j r) → T (leads m e s r)
    reached_on p r j t h y = let (l, L) = (leads_iff m e s p i).0 t in (leads_iff m e s r i).1 (one_more L r j h y)

    -- and no other node is reached: what a search that works forwards from the start computes
    pub reached_iff : (r : Place) → T (leads m e s r)
        ↔ ((s ≡ r) ⊎ ((p : Place) × (j : ℕ) × T (leads m e s p) × (next m.sizes p j ≡ Some r) × T (may_hop m e p j r)))
    reached_iff r = (
      λ t. let (l, L) = (leads_iff m e s r i).0 t in elim (last_hop L) [
        | inl f ↦ inl f
        | inr w ↦ let (p, j, k, K, h, y) = w in inr (p, j, (leads_iff m e s p i).1 (k, K), h, y)
      ],
      λ d. elim d [ inl f ↦ (leads_iff m e s r i).1 (_, stay f) | inr w ↦ let (p, j, t, h, y) = w in reached_on p r j t h y ],
    )

-- Whoever follows one step at a time needs nothing else: a set of nodes that has the start and not the end, closed under hops, refuses
-- every path.
pub closed_refuses : (m : Map) (s e : Place) → Inside m.sizes s → (A : Place → Bool) → T (A s)
    → ((p r : Place) (j : ℕ) → Inside m.sizes p → T (A p) → next m.sizes p j ≡ Some r → T (may_hop m e p j r) → T (A r))
    → (T (A e) → ⊥) → (l : List ℕ) → Path m s e l → ⊥
closed_refuses m s e i A a closed out l w = out (follow w.leading i a)
  where
    follow : {p q : Place} {l : List ℕ} → Leads m e p q l → Inside m.sizes p → T (A p) → T (A q)
    follow (stay f) i t = subst (λ (q : Place). T (A q)) f t
    follow {p} (hop {r = r} j h y L) i t = follow L (next_in m.sizes p r i j h) (closed p r j i t h y)

-- ---- the bytes

module _ (m : Map) (s e : Place) where
  pub reached_length : length (reached m s e) ≡ nodes m.sizes
  unfolding reached
  reached_length = length_table (λ k. bit (reached_at m s e k)) (nodes m.sizes)

  pub reached_byte : (k : ℕ) → k < nodes m.sizes → get_or (reached m s e) k 0 ≡ bit (reached_at m s e k)
  unfolding reached
  reached_byte k h = get_d_table (λ k. bit (reached_at m s e k)) (nodes m.sizes) k 0 h

  -- the byte of a place is 1 where preferred steps lead from the start to it
  pub byte_iff : (p : Place) → Inside m.sizes p → (get_or (reached m s e) (number m.sizes p) 0 ≡ 1) ↔ T (leads m e s p)
  byte_iff p i = rw (reached_byte (number m.sizes p) (number_lt m.sizes p i), place_of_lem m.sizes p i) (bit_one (leads m e s p))

  -- "the end's byte is 1 ⇔ the route is granted"
  pub end_byte : Inside m.sizes s → Inside m.sizes e → T (may_end (cell_at m s)) → T (may_end (cell_at m e))
      → (get_or (reached m s e) (number m.sizes e) 0 ≡ 1) ↔ ((l : List ℕ) × Path m s e l)
  end_byte i k a b = (
    λ h. (path_iff m s e i).1 (a, b, (byte_iff e k).0 h),
    λ w. (byte_iff e k).1 ((path_iff m s e i).0 w).2,
  )
