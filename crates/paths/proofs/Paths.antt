-- Paths as a relation and as a test agree (`leads_iff`): a preferred step lowers the hops that are left by one, so the test looks as far as
-- any path goes. Assumes nothing.
use mathlib.Core.Path.{◌≡◌, refl}
use mathlib.Core.Logic.{◌↔◌, ◌⊎◌, inl, inr}
use mathlib.Core.Bool.{Bool, true, false, ◌||◌}
use mathlib.Core.List.{List}
use Prim.Native.Nat.{ℕ, zero, suc, ◌≤◌}
use native.Mathlib.Omega.{arith}
use lib.Dec.{T}
use Rattle.mesh.specs.Tools.{any}
use Rattle.mesh.specs.Mesh.{Inside}
use Rattle.mesh.specs.Steps.{next}
use Rattle.mesh.specs.Cells.{Map, cell_at, may_end, linked}
use Rattle.mesh.proofs.Tests.{T-and, T-or, T-any, bool_ext}
use Rattle.mesh.proofs.Steps.{dir_led, next_in}
use Rattle.mesh.specs.declared.Place.{Place}
use Rattle.paths.specs.Differences.{preferred, hops, same}
use Rattle.paths.specs.Paths.{may_enter, may_hop, Leads, stay, hop, Path, begins_by, begins, leads_within, leads}
use Rattle.paths.proofs.Differences.{same_iff, preferred_lowers}
use Rattle.std.specs.Prelude.{Some, None, Option}

-- what a hop asks
pub may_hop_iff : (m : Map) (e p : Place) (j : ℕ) (r : Place) → T (may_hop m e p j r) ↔ (T (preferred p e j) × T (linked m p j) × T (may_enter m e r))
unfolding may_hop
may_hop_iff m e p j r = (
  λ t. let q : (T (preferred p e j) × T (linked m p j)) × T (may_enter m e r) = simp T-and at t in (q.0.0, q.0.1, q.1),
  λ q. simp T-and ((q.0, q.1), q.2),
)

module _ (m : Map) (e : Place) where
  -- a path begins by a hop, and `rest` goes on
  pub begins_read : (rest : Place → Bool) (p : Place) (j : ℕ)
      → T (begins m e rest p j) ↔ ((r : Place) × (next m.sizes p j ≡ Some r) × T (may_hop m e p j r) × T (rest r))
  begins_read rest p j = go (next m.sizes p j) refl
    where
      both : (t u : Bool) → T (elim t [ true ↦ u | false ↦ false ]) ↔ (T t × T u)
      both true u = (λ h. (tt, h), λ h. h.1)
      both false u = (λ h. absurd h, λ h. h.0)

      go : (n : Option Place) → next m.sizes p j ≡ n
          → T (begins_by m e rest p j n) ↔ ((r : Place) × (next m.sizes p j ≡ Some r) × T (may_hop m e p j r) × T (rest r))
      go (Some r) h = (
        λ t. let (a, b) = (both (may_hop m e p j r) (rest r)).0 t in (r, h, a, b),
        λ q.
            let (s, k, a, b) = q in
            let f : r ≡ s = cc in
            (both (may_hop m e p j r) (rest r)).1 (rw f (a, b)),
      )
      go None h = (λ t. absurd t, λ q. let (s, k, a, b) = q in let z : ◌≡◌ {A = ℕ} 0 1 = cc in absurd (omega arith))

  -- one turn of the test: arrived, or a hop and the rest
  turn_iff : (rest : Place → Bool) (q p : Place) → T (same p q || any 6 (begins m e rest p))
      ↔ ((p ≡ q) ⊎ ((j : ℕ) × (r : Place) × (next m.sizes p j ≡ Some r) × T (may_hop m e p j r) × T (rest r)))
  turn_iff rest q p = (
    λ t. elim ((T-or (same p q) (any 6 (begins m e rest p))).0 t) [
      | inl s ↦ inl ((same_iff p q).0 s)
      | inr s ↦
          let (j, k, u) = (T-any 6 (begins m e rest p)).0 s in
          let (r, h, y, v) = (begins_read rest p j).0 u in
          inr (j, r, h, y, v)
    ],
    λ d. (T-or (same p q) (any 6 (begins m e rest p))).1 (elim d [
      | inl f ↦ inl ((same_iff p q).1 f)
      | inr w ↦
          let (j, r, h, y, v) = w in
          inr ((T-any 6 (begins m e rest p)).1 (j, dir_led m.sizes p r j h, (begins_read rest p j).1 (r, h, y, v)))
    ]),
  )

  -- a hop leaves one hop fewer
  pub hop_lowers : (p r : Place) (j : ℕ) → Inside m.sizes p → next m.sizes p j ≡ Some r → T (may_hop m e p j r)
      → hops p e ≡ suc (hops r e)
  hop_lowers p r j i h t = preferred_lowers m.sizes p r e i j h ((may_hop_iff m e p j r).0 t).0

  found : (n : ℕ) (p q : Place) → Inside m.sizes p → hops p e ≤ n → T (leads_within n m e q p) → (l : List ℕ) × Leads m e p q l
  unfolding leads_within
  found zero p q i k t = (_, stay ((same_iff p q).0 t))
  found (suc n) p q i k t = elim ((turn_iff (leads_within n m e q) q p).0 t) [
    | inl f ↦ (_, stay f)
    | inr w ↦
        let (j, r, h, y, u) = w in
        let (l, L) = found n r q (next_in m.sizes p r i j h) (omega (arith, hop_lowers p r j i h y)) u in
        (_, hop {l = l} j h y L)
  ]

  finds : {p q : Place} {l : List ℕ} → Leads m e p q l → (n : ℕ) → Inside m.sizes p → hops p e ≤ n → T (leads_within n m e q p)
  unfolding leads_within
  finds {p} {q} (stay f) zero i k = (same_iff p q).1 f
  finds {p} {q} (stay f) (suc n) i k = (turn_iff (leads_within n m e q) q p).1 (inl f)
  finds {p} {q} (hop {r = r} j h y L) zero i k = absurd (omega (arith, hop_lowers p r j i h y))
  finds {p} {q} (hop {r = r} j h y L) (suc n) i k = (turn_iff (leads_within n m e q) q p).1
      (inr (j, r, h, y, finds L n (next_in m.sizes p r i j h) (omega (arith, hop_lowers p r j i h y))))

  -- the test finds exactly the paths
  pub leads_iff : (p q : Place) → Inside m.sizes p → T (leads m e p q) ↔ ((l : List ℕ) × Leads m e p q l)
  unfolding leads
  leads_iff p q i = (found (hops p e) p q i (omega arith), λ d. finds d.1 (hops p e) i (omega arith))

  -- the test, one hop at a time: what a search that works backwards from the end computes
  pub leads_is : (p q : Place) → Inside m.sizes p → leads m e p q ≡ same p q || any 6 (begins m e (λ r. leads m e r q) p)
  leads_is p q i = bool_ext (leads m e p q) (same p q || any 6 (begins m e (λ r. leads m e r q) p))
      (λ t. there ((leads_iff p q i).0 t).1)
      (λ t. (leads_iff p q i).1 (elim ((turn_iff (λ r. leads m e r q) q p).0 t) [
        | inl f ↦ (_, stay f)
        | inr w ↦
            let (j, r, h, y, u) = w in
            let (l, L) = (leads_iff r q (next_in m.sizes p r i j h)).0 u in
            (_, hop {l = l} j h y L)
      ]))
    where
      there : {l : List ℕ} → Leads m e p q l → T (same p q || any 6 (begins m e (λ r. leads m e r q) p))
      there (stay f) = (turn_iff (λ r. leads m e r q) q p).1 (inl f)
      there (hop {r = r} {l = l} j h y L) = (turn_iff (λ r. leads m e r q) q p).1
          (inr (j, r, h, y, (leads_iff r q (next_in m.sizes p r i j h)).1 (l, L)))

-- a path: both ends may end one, and the test finds it
pub path_iff : (m : Map) (s e : Place) → Inside m.sizes s
    → ((l : List ℕ) × Path m s e l) ↔ (T (may_end (cell_at m s)) × T (may_end (cell_at m e)) × T (leads m e s e))
path_iff m s e i = (
  λ w. (w.1.start_may, w.1.end_may, (leads_iff m e s e i).1 (w.0, w.1.leading)),
  λ t. let (l, L) = (leads_iff m e s e i).0 t.2 in (l, record { start_may = t.0; end_may = t.1; leading = L }),
)
