-- The offered set: bit j is set exactly if a path to the end begins in direction j. The route written: it is a path, of hops + 1 nodes, and
-- takes the lowest-numbered offered direction at each node. Assumes nothing.
use mathlib.Core.Path.{◌≡◌, refl, sym, ap, subst}
use mathlib.Core.Logic.{◌↔◌, inl, inr}
use mathlib.Core.Bool.{Bool, true, false, not}
use mathlib.Core.List.{List, ◌∷◌}
use Prim.Native.Nat.{ℕ, zero, suc, ◌+◌, ◌*◌, ◌/◌, ◌%◌, ◌^◌, ◌<◌, ◌≤◌}
use native.Mathlib.Omega.{arith}
use lib.ListN.{length}
use lib.Pow.{pow_pos}
use lib.Dec.{T, T_not, ltb}
use borrow.Author.Tests.{ltb-true, ltb-false}
use Rattle.mesh.specs.Tools.{bit, sum}
use Rattle.mesh.specs.Mesh.{number, Inside}
use Rattle.mesh.specs.Steps.{next}
use Rattle.mesh.specs.Cells.{Map}
use Rattle.mesh.proofs.Tests.{bool_ext, tried}
use Rattle.mesh.proofs.Bits.{bit_le}
use Rattle.mesh.proofs.Tables.{sum_zero, sum_part}
use Rattle.mesh.proofs.Steps.{dir_led, next_in}
use Rattle.mesh.specs.declared.Place.{Place}
use Rattle.paths.specs.Differences.{hops}
use Rattle.paths.specs.Paths.{may_hop, Leads, stay, hop, leads}
use Rattle.paths.specs.Offered.{offers, offered, lowest, onward, route_within, route, Lowest, ends, takes}
use Rattle.paths.proofs.Differences.{hops_zero, end_prefers_none}
use Rattle.paths.proofs.Walks.{path_walk}
use Rattle.paths.proofs.Paths.{may_hop_iff, begins_read, hop_lowers, leads_iff}
use Rattle.std.specs.Prelude.{Some}

-- ---- the offered set

-- a number with bit j for the test j, of six
six_lt : (t : ℕ → Bool) → sum 6 (λ j. bit (t j) * 2 ^ j) < 64
unfolding sum
six_lt t = omega (arith, bit_le (t 0), bit_le (t 1), bit_le (t 2), bit_le (t 3), bit_le (t 4), bit_le (t 5))

six_bit : (t : ℕ → Bool) (j : ℕ) → j < 6 → sum 6 (λ k. bit (t k) * 2 ^ k) / 2 ^ j % 2 ≡ bit (t j)
unfolding sum
six_bit t zero h = omega (arith, bit_le (t 0))
six_bit t (suc zero) h = omega (arith, bit_le (t 0), bit_le (t 1))
six_bit t (suc (suc zero)) h = omega (arith, bit_le (t 0), bit_le (t 1), bit_le (t 2))
six_bit t (suc (suc (suc zero))) h = omega (arith, bit_le (t 0), bit_le (t 1), bit_le (t 2), bit_le (t 3))
six_bit t (suc (suc (suc (suc zero)))) h = omega (arith, bit_le (t 0), bit_le (t 1), bit_le (t 2), bit_le (t 3), bit_le (t 4))
six_bit t (suc (suc (suc (suc (suc zero))))) h = omega (arith, bit_le (t 0), bit_le (t 1), bit_le (t 2), bit_le (t 3), bit_le (t 4), bit_le (t 5))
six_bit t (suc (suc (suc (suc (suc (suc j)))))) h = absurd (omega arith)

pub bit_one : (b : Bool) → (bit b ≡ 1) ↔ T b
bit_one true = (λ e. tt, λ t. refl)
bit_one false = (λ e. absurd (omega arith), λ t. absurd t)

module _ (m : Map) (e : Place) where
  -- "set when a path to the end begins that way"
  pub offers_iff : (p : Place) (j : ℕ) → Inside m.sizes p → T (offers m e p j)
      ↔ ((r : Place) × (l : List ℕ) × (next m.sizes p j ≡ Some r) × T (may_hop m e p j r) × Leads m e r e l)
  unfolding offers
  offers_iff p j i = (
    λ t.
        let (r, h, y, u) = (begins_read m e (λ r. leads m e r e) p j).0 t in
        let (l, L) = (leads_iff m e r e (next_in m.sizes p r i j h)).0 u in
        (r, l, h, y, L),
    λ d.
        let (r, l, h, y, L) = d in
        (begins_read m e (λ r. leads m e r e) p j).1 (r, h, y, (leads_iff m e r e (next_in m.sizes p r i j h)).1 (l, L)),
  )

  pub offered_bit : (p : Place) (j : ℕ) → j < 6 → (offered m e p / 2 ^ j % 2 ≡ 1) ↔ T (offers m e p j)
  unfolding offered
  offered_bit p j h = rw (six_bit (offers m e p) j h) (bit_one (offers m e p j))

  pub offered_lt : (p : Place) → offered m e p < 64
  unfolding offered
  offered_lt p = six_lt (offers m e p)

  end_offers_none : (j : ℕ) → T (offers m e e j) → ⊥
  unfolding offers
  end_offers_none j t =
      let (r, h, y, u) = (begins_read m e (λ r. leads m e r e) e j).0 t in
      end_prefers_none e j ((may_hop_iff m e e j r).0 y).0

  -- "It is 0 at the end itself."
  pub offered_end : offered m e e ≡ 0
  unfolding offered
  offered_end = sum_zero 6 (λ j. bit (offers m e e j) * 2 ^ j) λ j h.
      rw (bool_ext (offers m e e j) false (end_offers_none j) (λ t. absurd t)) (omega arith)

-- ---- the lowest-numbered

pub record Least (t : ℕ → Bool) (n j : ℕ) : Type 0 where
  pub passes : T (t j)
  pub small : j < n
  pub none : (k : ℕ) → k < j → T (t k) → ⊥

pub lowest_is : (n : ℕ) (t : ℕ → Bool) (j : ℕ) → j < n → T (t j) → Least t n (lowest n t)
unfolding lowest
lowest_is zero t j h y = absurd (omega arith)
lowest_is (suc n) t j h y = split (t 0) refl (lowest_is n λ k. t (suc k))
  where
    later : (j : ℕ) → t 0 ≡ false → j < suc n → T (t j) → (k : ℕ) × (k < n) × T (t (suc k))
    later zero f h y = absurd (rw f at y)
    later (suc k) f h y = (k, omega arith, y)

    none : (l : ℕ) → t 0 ≡ false → ((k : ℕ) → k < l → T (t (suc k)) → ⊥) → (k : ℕ) → k < suc l → T (t k) → ⊥
    none l f g zero h y = rw f at y
    none l f g (suc k) h y = g k (omega arith) y

    split : (b : Bool) → t 0 ≡ b → ((j : ℕ) → j < n → T (t (suc j)) → Least (λ k. t (suc k)) n (lowest n (λ k. t (suc k))))
        → Least t (suc n) (elim b [ true ↦ 0 | false ↦ suc (lowest n (λ k. t (suc k))) ])
    split true f g = record { passes = rw f tt; small = omega arith; none = λ k h y. omega arith }
    split false f g =
        let (k, l, z) = later j f h y in
        let r = g k l z in
        record { passes = r.passes; small = omega arith; none = none (lowest n (λ k. t (suc k))) f r.none }

-- the lowest is one
pub least_one : (B : ℕ → Type 0) (j k : ℕ) → ((i : ℕ) → i < j → B i → ⊥) → B j → ((i : ℕ) → i < k → B i → ⊥) → B k → j ≡ k
least_one B j k nj bj nk bk = split (ltb j k) refl (ltb k j) refl
  where
    split : (t : Bool) → ltb j k ≡ t → (u : Bool) → ltb k j ≡ u → j ≡ k
    split true f u g = absurd (nk j (ltb-true j k f) bj)
    split false f true g = absurd (nj k (ltb-true k j g) bk)
    split false f false g = omega (arith, ltb-false j k f, ltb-false k j g)

-- ---- the route

module _ (m : Map) (e : Place) where
  lowest_leads : {p : Place} {l : List ℕ} → Lowest m e p l → Inside m.sizes p → Leads m e p e l
  lowest_leads (ends f) i = stay f
  lowest_leads {p} (takes {r = r} j t n h L) i =
      let (r', l, h', y, L') = (offers_iff m e p j i).0 t in
      let f : r' ≡ r = cc in
      hop j h (rw f at y) (lowest_leads L (next_in m.sizes p r i j h))

  -- where a path leads on from a node that is not the end, one begins in some direction
  offers_some : (p : Place) → Inside m.sizes p → (p ≡ e → ⊥) → T (leads m e p e) → (j : ℕ) × (j < 6) × T (offers m e p j)
  offers_some p i ne t = split ((leads_iff m e p e i).0 t).1
    where
      split : {l : List ℕ} → Leads m e p e l → (j : ℕ) × (j < 6) × T (offers m e p j)
      split (stay f) = absurd (ne f)
      split (hop {r = r} {l = l} j h y L) = (j, dir_led m.sizes p r j h, (offers_iff m e p j i).1 (r, l, h, y, L))

  -- a node that is not the end has a path exactly if its offered set is not 0
  pub offered_none : (p : Place) → Inside m.sizes p → (p ≡ e → ⊥) → offered m e p ≡ 0 → T (leads m e p e) → ⊥
  unfolding offered
  offered_none p i ne z t =
      let (j, h, y) = offers_some p i ne t in
      let q : bit (offers m e p j) * 2 ^ j ≤ 0 = rw z at (sum_part 6 (λ j. bit (offers m e p j) * 2 ^ j) j h) in
      let k : bit (offers m e p j) ≡ 1 = (bit_one (offers m e p j)).1 y in
      omega (arith, rw k at q, pow_pos j)

  pub offered_leads : (p : Place) → Inside m.sizes p → 0 < offered m e p → T (leads m e p e)
  unfolding offered
  offered_leads p i h = elim (tried (leads m e p e)) [
    | inl t ↦ t
    | inr t ↦ absurd (omega (arith, sum_zero 6 (λ j. bit (offers m e p j) * 2 ^ j) λ j l. rw (none t j) (omega arith)))
  ]
    where
      none : T (not (leads m e p e)) → (j : ℕ) → offers m e p j ≡ false
      none t j = bool_ext (offers m e p j) false
          (λ y.
          let (r, l, g, z, L) = (offers_iff m e p j i).0 y in
          T_not (leads m e p e) t ((leads_iff m e p e i).1 (_, hop {l = l} j g z L)))
          (λ y. absurd y)

  routed : (n : ℕ) (p : Place) → Inside m.sizes p → hops p e ≡ n → T (leads m e p e) → Lowest m e p (route_within n m e p)
  unfolding route_within
  routed zero p i h t = ends ((hops_zero p e).0 h)
  routed (suc n) p i h t =
      let (j, k, y) = offers_some p i (λ f. omega (arith, (hops_zero p e).1 f)) t in
      let s = lowest_is 6 (offers m e p) j k y in
      let (r, l, g, z, L) = (offers_iff m e p (lowest 6 (offers m e p)) i).0 s.passes in
      let i' = next_in m.sizes p r i (lowest 6 (offers m e p)) g in
      let L' = routed n r i' (omega (arith, hop_lowers m e p r (lowest 6 (offers m e p)) i g z)) ((leads_iff m e r e i').1 (l, L)) in
      takes (lowest 6 (offers m e p)) s.passes s.none g (subst (λ (k : List ℕ). Lowest m e r k) (sym (ap (onward (route_within n m e)) g)) L')

  -- "The route written is the path that takes the lowest-numbered offered direction at each node", and there is no other such list
  pub route_lowest : (p : Place) → Inside m.sizes p → T (leads m e p e) → Lowest m e p (route m e p)
  unfolding route
  route_lowest p i t = routed (hops p e) p i refl t

  pub lowest_only : {p : Place} {l l' : List ℕ} → Lowest m e p l → Lowest m e p l' → l ≡ l'
  lowest_only (ends f) (ends g) = refl
  lowest_only (ends f) (takes j t n h L) = absurd (end_offers_none m e j (rw f at t))
  lowest_only (takes j t n h L) (ends g) = absurd (end_offers_none m e j (rw g at t))
  lowest_only {p} (takes {r = r} j t n h L) (takes {r = r'} j' t' n' h' L') =
      let f : j ≡ j' = least_one (λ i. T (offers m e p i)) j j' n t n' t' in
      let g : r ≡ r' = cc in
      ap (◌∷◌ (number m.sizes p)) (lowest_only (rw g at L) L')

  pub route_leads : (p : Place) → Inside m.sizes p → T (leads m e p e) → Leads m e p e (route m e p)
  route_leads p i t = lowest_leads (route_lowest p i t) i

  -- "hops + 1 of them"
  pub route_length_lem : (p : Place) → Inside m.sizes p → T (leads m e p e) → length (route m e p) ≡ hops p e + 1
  route_length_lem p i t = ((path_walk m e p (route m e p) i).0 (route_leads p i t)).1
