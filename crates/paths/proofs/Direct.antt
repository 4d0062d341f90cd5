-- Paths by positions: a path is exactly a direct walk of specs/Promise, the route takes the lowest offered direction at each of its nodes,
-- and a direction is offered exactly if a path begins that way. A list that leads from a place begins with its number, and a node's place is
-- told by its number, so the places of a path can be read from the list. Assumes nothing.
use mathlib.Core.Path.{◌≡◌, refl, sym, ap, ◌∙◌, subst}
use mathlib.Core.Logic.{◌↔◌, inl, inr}
use mathlib.Core.List.{List, [], ◌∷◌}
use Prim.Native.Nat.{ℕ, zero, suc, ◌<◌}
use native.Mathlib.Omega.{arith}
use lib.ListN.{length, get_or}
use lib.Dec.{T}
use lib.Seq.{ext_get_or}
use Rattle.mesh.specs.Mesh.{Inside, nodes, number, place_of}
use Rattle.mesh.specs.Steps.{next}
use Rattle.mesh.specs.Cells.{Map, map_of, cell_at, may_pass, may_end, linked}
use Rattle.mesh.proofs.Tests.{T-cond, tried}
use Rattle.mesh.proofs.Numbers.{number_of, number_lt, place_in, place_of_lem, number_eq}
use Rattle.mesh.proofs.Steps.{next_in, next_only}
use Rattle.mesh.specs.declared.Sizes.{Sizes}
use Rattle.mesh.specs.declared.Place.{Place}
use Rattle.paths.specs.Differences.{hops, same}
use Rattle.paths.specs.Paths.{may_enter, may_hop, Leads, stay, hop, Path, Walk, stands, goes}
use Rattle.paths.specs.Offered.{offers, Lowest, ends, takes}
use Rattle.paths.specs.Promise.{Begins, DirectWalk, TakesLowest}
use Rattle.paths.proofs.Paths.{may_hop_iff}
use Rattle.paths.proofs.Walks.{path_walk}
use Rattle.paths.proofs.Differences.{at_eq}
use Rattle.paths.proofs.Offered.{offers_iff, least_one}
use Rattle.std.specs.Prelude.{Some}

-- ---- a list that leads from a place begins with its number

leads_head : {m : Map} {e p q : Place} {l : List ℕ} → Leads m e p q l → (k : List ℕ) × (l ≡ number m.sizes p ∷ k)
leads_head (stay f) = ([], refl)
leads_head (hop {l = l} j h y L) = (l, refl)

walk_head : {m : Map} {e p q : Place} {l : List ℕ} → Walk m e p q l → get_or l 0 0 ≡ number m.sizes p
walk_head (stands f) = refl
walk_head (goes j h k n w) = refl

lowest_head : {m : Map} {e p : Place} {l : List ℕ} → Lowest m e p l → get_or l 0 0 ≡ number m.sizes p
lowest_head (ends f) = refl
lowest_head (takes j t n h L) = refl

walk_last : {m : Map} {e p q : Place} {l : List ℕ} (n : ℕ) → Walk m e p q l → length l ≡ suc n → get_or l n 0 ≡ number m.sizes q
walk_last {m} zero (stands f) d = ap (number m.sizes) f
walk_last (suc n) (stands f) d = absurd (omega arith)
walk_last zero (goes j h k n w) d = absurd (some w (omega arith))
  where
    some : {m : Map} {e p q : Place} {l : List ℕ} → Walk m e p q l → length l ≡ 0 → ⊥
    some (stands f) d = omega arith
    some (goes j h k n w) d = omega arith
walk_last {p = p} (suc n) (goes {r = r} j h k _ w) d = walk_last {p = r} n w (omega arith)

-- ---- a direct walk

module _ (m : Map) (e : Place) where
  abbrev at : ℕ → Place
  at k = place_of m.sizes k

  -- from node a to node b
  pub record Step (a b : ℕ) : Type 0 where
    pub enters : T (may_enter m e (at b))
    pub leads : (j : ℕ) × T (linked m (at a) j) × (next m.sizes (at a) j ≡ Some (at b))

  walk_steps : {p q : Place} {l : List ℕ} → Walk m e p q l → Inside m.sizes p → (i : ℕ) → suc i < length l → Step (get_or l i 0) (get_or l (suc i) 0)
  walk_steps (stands f) i zero h = absurd (omega arith)
  walk_steps (stands f) i (suc n) h = absurd (omega arith)
  walk_steps {p} (goes {r = r} j g k n w) i zero h =
      let f = place_of_lem m.sizes p i in
      let f' = place_of_lem m.sizes r (next_in m.sizes p r i j g) in
      record { enters = rw (walk_head w, f') n; leads = (j, rw f k, rw (walk_head w, f, f') g) }
  walk_steps {p} (goes {r = r} j g k n w) i (suc a) h = walk_steps w (next_in m.sizes p r i j g) a (omega arith)

  steps_walk : (l : List ℕ) (n : ℕ) (p q : Place) → Inside m.sizes p → Inside m.sizes q → length l ≡ suc n
      → get_or l 0 0 ≡ number m.sizes p → get_or l n 0 ≡ number m.sizes q
      → ((i : ℕ) → suc i < length l → Step (get_or l i 0) (get_or l (suc i) 0)) → Walk m e p q l
  steps_walk [] n p q i k d a b s = absurd (omega arith)
  steps_walk (x ∷ []) zero p q i k d a b s = rw a (stands (number_eq m.sizes p q i k (sym a ∙ b)))
  steps_walk (x ∷ []) (suc n) p q i k d a b s = absurd (omega arith)
  steps_walk (x ∷ y ∷ l) zero p q i k d a b s = absurd (omega arith)
  steps_walk (x ∷ y ∷ l) (suc n) p q i k d a b s =
      let t = s 0 (omega arith) in
      let (j, c, g) = t.leads in
      let f : place_of m.sizes x ≡ p = ap (place_of m.sizes) a ∙ place_of_lem m.sizes p i in
      let g' : next m.sizes p j ≡ Some (at y) = rw (← f) g in
      let w = steps_walk (y ∷ l) n (at y) q (next_in m.sizes p (at y) i j g') k (omega arith) (sym (number_of m.sizes y)) b
      (λ i h. s (suc i) (omega arith)) in
      rw a (goes {p = p} {r = at y} {q = q} {l = y ∷ l} j g' (rw (← f) c) t.enters w)

module _ (S : Sizes) (cells : List ℕ) (s e : ℕ) (k : s < nodes S) (k' : e < nodes S) where
  abbrev m : Map
  m = map_of S cells

  -- "a path is exactly a walk from start to end, each node working and a mesh neighbour of the one before, whose number of hops is the
  -- Manhattan distance"
  pub path_direct : (l : List ℕ) → Path m (place_of S s) (place_of S e) l ↔ DirectWalk S cells s e l
  path_direct l =
      let i = place_in S s k in
      let i' = place_in S e k' in (
        λ w.
            let (a, d) = (path_walk m (place_of S e) (place_of S s) l i).0 w.leading in
            record {
              size = d;
              first = walk_head a ∙ number_of S s;
              last = walk_last (hops (place_of S s) (place_of S e)) a (omega arith) ∙ number_of S e;
              ends = (w.start_may, w.end_may);
              works = λ n h. (walk_steps m (place_of S e) a i n h).enters;
              neighbours = λ n h. (walk_steps m (place_of S e) a i n h).leads;
            },
        λ w. record {
          start_may = w.ends.0;
          end_may = w.ends.1;
          leading = (path_walk m (place_of S e) (place_of S s) l i).1 (
            steps_walk m (place_of S e) l (hops (place_of S s) (place_of S e)) (place_of S s) (place_of S e) i i' (omega (arith, w.size)) (w.first ∙ sym (number_of S s)) (w.last ∙ sym (number_of S e))
                (λ n h. record { enters = w.works n h; leads = w.neighbours n h }),
            w.size,
          );
        },
      )

-- ---- where a path begins

-- a list of two nodes or more leads by a hop to the second
first_hop : {m : Map} {e p q : Place} {k : List ℕ} (a b : ℕ) (l : List ℕ) → Leads m e p q k → k ≡ a ∷ b ∷ l
    → (r : Place) × (j : ℕ) × (n : List ℕ) × (next m.sizes p j ≡ Some r) × T (may_hop m e p j r) × Leads m e r q n × (b ≡ number m.sizes r)
first_hop a b l (stay f) d = let z : ◌≡◌ {A = ℕ} 1 (suc (suc (length l))) = ap length d in absurd (omega arith)
first_hop {m} a b l (hop {r = r} {l = n} j h y L) d =
    let (k, f) = leads_head L in
    let g : n ≡ b ∷ l = cc in
    (r, j, n, h, y, L, ap (λ (l : List ℕ). get_or l 0 0) (sym g ∙ f))

module _ (S : Sizes) (cells : List ℕ) (s e : ℕ) where
  -- "bit k .. set when a path to the end begins that way"
  pub begins_iff : (k : ℕ) → k < nodes S → T (may_end (cell_at (map_of S cells) (place_of S k))) → T (may_end (cell_at (map_of S cells) (place_of S e)))
      → (j : ℕ) → T (offers (map_of S cells) (place_of S e) (place_of S k) j) ↔ Begins S cells s e k j
  begins_iff k h a b j =
      let m : Map = map_of S cells in
      let i = place_in S k h in (
        λ t.
            let (r, l, g, y, L) = (offers_iff m (place_of S e) (place_of S k) j i).0 t in
            let (n, f) = leads_head L in (
              r,
              n,
              g,
              record {
                start_may = a;
                end_may = b;
                leading = subst (λ (x : ℕ). Leads m (place_of S e) (place_of S k) (place_of S e) (x ∷ number S r ∷ n)) (number_of S k)
                    (hop j g y (rw f at L));
              },
            ),
        λ w.
            let (r, l, g, path) = w in
            let (r', j', n, g', y, L, f) = first_hop k (number S r) l path.leading refl in
            let z : r ≡ r' = number_eq S r r' (next_in S (place_of S k) r i j g) (next_in S (place_of S k) r' i j' g') f in
            let q : j ≡ j' = next_only S (place_of S k) r' i j j' (rw (← z) g) g' in
            rw q ((offers_iff m (place_of S e) (place_of S k) j' i).1 (r', n, g', y, L)),
      )

-- ---- the lowest direction at each node

-- what may be entered may be an end
enter_end : (m : Map) (e r : Place) → T (may_enter m e r) → T (may_end (cell_at m r))
unfolding may_enter may_pass may_end
enter_end m e r t = let (a, b) = (T-cond (same r e) (may_end (cell_at m r)) (may_pass (cell_at m r))).0 t in elim (tried (same r e)) [ inl x ↦ a x | inr x ↦ b x ]

module _ (S : Sizes) (cells : List ℕ) (s e : ℕ) where
  pub lowest_takes : {p : Place} {l : List ℕ} → Lowest (map_of S cells) (place_of S e) p l → Inside S p
      → T (may_end (cell_at (map_of S cells) p)) → T (may_end (cell_at (map_of S cells) (place_of S e))) → TakesLowest S cells s e l
  lowest_takes (ends f) i a b zero h = absurd (omega arith)
  lowest_takes (ends f) i a b (suc n) h = absurd (omega arith)
  lowest_takes {p} (takes {r = r} j t n g L) i a b zero h =
      let m : Map = map_of S cells in
      let f = place_of_lem S p i in
      let begins = begins_iff S cells s e (number S p) (number_lt S p i) (subst (λ (q : Place). T (may_end (cell_at m q))) (sym f) a) b in (
        j,
        rw (lowest_head L, f, place_of_lem S r (next_in S p r i j g)) g,
        (begins j).0 (rw f t),
        λ k l w. n k l (rw (← f) ((begins k).1 w)),
      )
  lowest_takes {p} (takes {r = r} j t n g L) i a b (suc c) h =
      let m : Map = map_of S cells in
      let (r', l', g', y, L') = (offers_iff m (place_of S e) p j i).0 t in
      let z : r' ≡ r = at_eq (sym g' ∙ g) in
      let v = ((may_hop_iff m (place_of S e) p j r).0 (rw z at y)).2 in
      lowest_takes L (next_in S p r i j g) (enter_end m (place_of S e) r v) b c (omega arith)

-- so there is one such path
pub one_route : (S : Sizes) (cells : List ℕ) (s e : ℕ) → s < nodes S → e < nodes S → (l k : List ℕ)
    → Path (map_of S cells) (place_of S s) (place_of S e) l → TakesLowest S cells s e l
    → Path (map_of S cells) (place_of S s) (place_of S e) k → TakesLowest S cells s e k → l ≡ k
one_route S cells s e a b l k p t q u =
    let w = (path_direct S cells s e a b l).0 p in
    let v = (path_direct S cells s e a b k).0 q in
    ext_get_or 0 l k (w.size ∙ sym v.size) (same w v)
  where
    same : DirectWalk S cells s e l → DirectWalk S cells s e k → (i : ℕ) → i < length l → get_or l i 0 ≡ get_or k i 0
    same w v zero h = w.first ∙ sym v.first
    same w v (suc i) h =
        let f = same w v i (omega arith) in
        let (c, g, x, n) = t i h in
        let (d, g', y, o) = u i (omega (arith, w.size, v.size)) in
        let y' : Begins S cells s e (get_or l i 0) d = rw f y in
        let z : c ≡ d = least_one (Begins S cells s e (get_or l i 0)) c d n x (λ j l r. o j l (rw (← f) r)) y' in
        let r : place_of S (get_or l (suc i) 0) ≡ place_of S (get_or k (suc i) 0) = at_eq (sym g ∙ rw (f, z) g') in
        sym (number_of S (get_or l (suc i) 0)) ∙ ap (number S) r ∙ number_of S (get_or k (suc i) 0)
