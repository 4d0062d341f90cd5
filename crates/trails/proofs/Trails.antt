-- The way through the table is the route: at each node it takes the lowest-numbered offered direction. Assumes nothing.
use mathlib.Core.Path.{◌≡◌, refl, sym, ap, ◌∙◌, subst}
use mathlib.Core.Logic.{inl, inr}
use mathlib.Core.Bool.{Bool, true, false, cond, not, ◌&&◌, ◌||◌}
use mathlib.Core.List.{List}
use Prim.Native.Nat.{ℕ, zero, suc, ◌+◌, ◌-◌, ◌<◌, ◌≤◌}
use native.Mathlib.Nat.{eq-or-lt_of_le}
use native.Mathlib.Omega.{arith}
use lib.ListN.{get_or}
use lib.Dec.{T, ltb, eqb, ltb→lt}
use Rattle.mesh.specs.Tools.{bit}
use Rattle.mesh.specs.Mesh.{Axis, X, Y, Z, on, number, Inside}
use Rattle.mesh.specs.Steps.{next, along}
use Rattle.mesh.specs.Cells.{Map, cell_at, may_end}
use Rattle.mesh.proofs.Tests.{T-and, T-or, T-eq, bool_ext}
use Rattle.mesh.proofs.Bits.{bit_one}
use Rattle.mesh.proofs.Steps.{put, dir_lt, next_in}
use Rattle.mesh.specs.declared.Place.{Place}
use Rattle.paths.specs.Differences.{hops, same}
use Rattle.paths.specs.Paths.{leads}
use Rattle.paths.specs.Offered.{offers, lowest, route_within, route}
use Rattle.paths.proofs.Differences.{at_eq, hops_zero, hops_is, same_iff, size_is, place_eq}
use Rattle.paths.proofs.Paths.{leads_iff, hop_lowers}
use Rattle.paths.proofs.Offered.{lowest_is, least_one, offers_iff}
use Rattle.rows.specs.Box.{between, reach, far, Within}
use Rattle.sweeps.specs.Sweep.{way_in, entry, ways_of}
use Rattle.sweeps.proofs.Runs.{run_on, origin, reach_first, reach_far}
use Rattle.sweeps.proofs.Backward.{ahead, node_in, step_back, from_end, leads_entry, offers_back, offers_on}
use Rattle.sweeps.specs.declared.Ways.{Ways}
use Rattle.rows.specs.declared.Between.{Between}
use Rattle.trails.specs.Table.{Table, towards, ways_in, nearest, trail}
use Rattle.trails.proofs.Table.{ways_in_lem}
use Rattle.trails.proofs.Following.{towards_within}
use Rattle.std.specs.Prelude.{Some}

-- ---- the lowest of six

abbrev NoneBelow : (ℕ → Bool) → ℕ → Type 0
NoneBelow f n = (k : ℕ) → k < n → T (f k) → ⊥

one_more : (f : ℕ → Bool) (n : ℕ) → f n ≡ false → NoneBelow f n → NoneBelow f (n + 1)
one_more f n e h k l t = elim (eq-or-lt_of_le (le_of k l)) [ inl q ↦ subst (λ (b : Bool). T b) e (rw q at t) | inr q ↦ h k q t ]
  where
    le_of : (k : ℕ) → k < n + 1 → k ≤ n
    le_of k l = omega arith

up : (a : Axis) → along a true ≡ along a false + 1
up X = refl
up Y = refl
up Z = refl

-- the one direction of an axis that may be found is the lowest, and with neither found the next axis is up
none_here : (f : ℕ → Bool) (a : Axis) (o : Bool) → f (along a o) ≡ false → NoneBelow f (along a false) → NoneBelow f (along a (not o))
none_here f a true e h = h
none_here f a false e h = rw (up a) (one_more f (along a false) e h)

none_past : (f : ℕ → Bool) (a : Axis) (o : Bool) → f (along a o) ≡ false → f (along a (not o)) ≡ false → NoneBelow f (along a false)
    → NoneBelow f (along a true + 1)
none_past f a true e e' h = one_more f (along a true) e (rw (up a) (one_more f (along a false) e' h))
none_past f a false e e' h = one_more f (along a true) e' (rw (up a) (one_more f (along a false) e h))

-- three ways, and whether there is one
pub summed : (w : Ways) (seen : Place → Bool) (t : Place) → w ≡ ways_of seen t → entry seen t ≡ not (eqb (w.x + w.y + w.z) 0)
summed w seen t e = rw e (split (way_in seen t X) (way_in seen t Y) (way_in seen t Z))
  where
    split : (x y z : Bool) → (x || y || z) ≡ not (eqb (bit x + bit y + bit z) 0)
    split true true true = refl
    split true true false = refl
    split true false true = refl
    split true false false = refl
    split false true true = refl
    split false true false = refl
    split false false true = refl
    split false false false = refl

pub far_zero : (s e : Place) → same (far (between e s)) origin ≡ eqb (hops s e) 0
far_zero s e = bool_ext (same (far (between e s)) origin) (eqb (hops s e) 0)
    (λ h.
    let f = (same_iff (far (between e s)) origin).0 h in
    (T-eq (hops s e) 0).1 ((hops_zero s e).1 (sym (reach_far e s) ∙ ap (reach (between e s)) f ∙ reach_first e s)))
    (λ h.
    let k : hops s e ≡ 0 = (T-eq (hops s e) 0).0 h in
    let l = sym (hops_is s e) ∙ k in
    (same_iff (far (between e s)) origin).1 (place_eq (far (between e s)) origin
    (omega (arith, size_is e.x s.x)) (omega (arith, size_is e.y s.y)) (omega (arith, size_is e.z s.z))))

-- ---- one step

module _ (m : Map) (s e : Place) (s_in : Inside m.sizes s) (e_in : Inside m.sizes e) (ends : T (may_end (cell_at m e))) where
  abbrev g : Between
  g = between e s

  -- is the way on an axis seen, t steps from the end
  abbrev seen : Place → Axis → Bool
  seen t a = ltb 0 (on t a) && ahead m s e s_in e_in (put a t (on t a - 1))

  there : (t : Place) → Within g t → (a : Axis) → offers m e (reach g t) (along a (not (run_on g a).down)) ≡ seen t a
  there t w a = offers_back m s e s_in e_in ends t w a

  away : (t : Place) → Within g t → (a : Axis) → offers m e (reach g t) (along a (run_on g a).down) ≡ false
  away t w a = offers_on m s e s_in e_in ends t w a

  -- where the route goes on
  record Onto (p q : Place) : Type 0 where
    led : next m.sizes p (lowest 6 (offers m e p)) ≡ Some q
    nearer : hops p e ≡ suc (hops q e)
    leading : T (leads m e q e)

  onto : (t : Place) → Within g t → (a : Axis) → seen t a ≡ true → NoneBelow (offers m e (reach g t)) (along a false)
      → Onto (reach g t) (reach g (put a t (on t a - 1)))
  onto t w a h none =
      let p : Place = reach g t in
      let j : ℕ = along a (not (run_on g a).down) in
      let q : Place = reach g (put a t (on t a - 1)) in
      let i = node_in m s e s_in e_in t w in
      let o : T (offers m e p j) = rw (there t w a ∙ h) tt in
      let l : T (ltb 0 (on t a)) = ((T-and (ltb 0 (on t a)) (ahead m s e s_in e_in (put a t (on t a - 1)))).0 (rw h tt)).0 in
      let n : next m.sizes p j ≡ Some q = step_back m s e s_in e_in t w a (ltb→lt 0 (on t a) l) in
      let L = lowest_is 6 (offers m e p) j (dir_lt a (not (run_on g a).down)) o in
      let f : lowest 6 (offers m e p) ≡ j = least_one (λ i. T (offers m e p i)) (lowest 6 (offers m e p)) j L.none L.passes
      (none_here (offers m e p) a (run_on g a).down (away t w a) none) o in
      let (r, l, k, y, P) = (offers_iff m e p j i).0 o in
      let z : r ≡ q = at_eq (sym k ∙ n) in
      record {
        led = rw f n;
        nearer = subst (λ (r : Place). hops p e ≡ suc (hops r e)) z (hop_lowers m e p r j i k y);
        leading = subst (λ (r : Place). T (leads m e r e)) z ((leads_iff m e r e (next_in m.sizes p r i j k)).1 (l, P));
      }

  -- the start has a path if it is the end, or if a way from it is seen
  pub granted_is : (w : Ways) → w ≡ ways_of (ahead m s e s_in e_in) (far g) → leads m e s e ≡ (eqb (hops s e) 0 || not (eqb (w.x + w.y + w.z) 0))
  granted_is w h =
      ap (λ (p : Place). leads m e p e) (sym (reach_far e s))
      ∙ leads_entry m s e s_in e_in ends (far g) (record { x_le = omega arith; y_le = omega arith; z_le = omega arith })
      ∙ ap (λ (b : Bool). b || entry (ahead m s e s_in e_in) (far g)) (far_zero s e)
      ∙ ap (λ (b : Bool). eqb (hops s e) 0 || b) (summed w (ahead m s e s_in e_in) (far g) h)

  module _ (table : List ℕ) (K : Table m g (g.z.steps + 1) table) where
    nearest_is : (t : Place) → Within g t → nearest table t ≡ towards (ways_of (ahead m s e s_in e_in) t) t
    nearest_is t w = ap (λ (v : Ways). towards v t)
        (ways_in_lem m g (g.z.steps + 1) table K (ahead m s e s_in e_in) (from_end m s e s_in e_in ends) t w (omega (arith, w.z_le)))

    -- from a node with a path that is not the end, the way takes the lowest offered direction
    forth : (t : Place) → Within g t → T (leads m e (reach g t) e) → (t ≡ origin → ⊥) → Onto (reach g t) (reach g (nearest table t))
    forth t w l off =
        rw (nearest_is t w, bit_one (seen t X), bit_one (seen t Y), bit_one (seen t Z)) (split (seen t X) (seen t Y) (seen t Z) refl refl refl)
      where
        f : ℕ → Bool
        f = offers m e (reach g t)

        past_x : seen t X ≡ false → NoneBelow f 2
        past_x h = none_past f X (run_on g X).down (away t w X) (there t w X ∙ h) (λ k z. absurd (omega arith))

        past_y : seen t X ≡ false → seen t Y ≡ false → NoneBelow f 4
        past_y h k = none_past f Y (run_on g Y).down (away t w Y) (there t w Y ∙ k) (past_x h)

        split : (x y z : Bool) → seen t X ≡ x → seen t Y ≡ y → seen t Z ≡ z
            → Onto (reach g t) (reach g (cond x (put X t (t.x - 1)) (cond y (put Y t (t.y - 1)) (cond z (put Z t (t.z - 1)) t))))
        split true y z hx hy hz = onto t w X hx (λ k l. absurd (omega arith))
        split false true z hx hy hz = onto t w Y hy (past_x hx)
        split false false true hx hy hz = onto t w Z hz (past_y hx hy)
        split false false false hx hy hz =
            let q : T (same t origin || (false || false || false)) = rw (leads_entry m s e s_in e_in ends t w, hx, hy, hz) at l in
            absurd (elim ((T-or (same t origin) false).0 q) [ inl u ↦ off ((same_iff t origin).0 u) | inr u ↦ u ])

    -- what is read of the route from any node of the box
    abbrev onwards : ℕ → Place → Place
    onwards zero t = t
    onwards (suc i) t = onwards i (nearest table t)

    reads : (n i : ℕ) (t : Place) → Within g t → hops (reach g t) e ≡ n → T (leads m e (reach g t) e) → i ≤ n
        → get_or (route_within n m e (reach g t)) i 0 ≡ number m.sizes (reach g (onwards i t))
    unfolding route_within
    reads zero zero t w h l k = refl
    reads zero (suc i) t w h l k = absurd (omega arith)
    reads (suc n) zero t w h l k = refl
    reads (suc n) (suc i) t w h l k =
        let O = forth t w l (λ f. omega (arith, (hops_zero (reach g t) e).1 (ap (reach g) f ∙ reach_first e s))) in
        rw O.led
        (reads n i (nearest table t) (towards_within g (ways_in table t) t w) (omega (arith, O.nearer)) O.leading (omega arith))

    pushed : (i : ℕ) (t : Place) → nearest table (onwards i t) ≡ onwards i (nearest table t)
    pushed zero t = refl
    pushed (suc i) t = pushed i (nearest table t)

    trail_is : (i : ℕ) → trail g table i ≡ onwards i (far g)
    trail_is zero = refl
    trail_is (suc i) = ap (nearest table) (trail_is i) ∙ pushed i (far g)

    -- the nodes of the way are those of the route
    pub route_trail : T (leads m e s e) → (i : ℕ) → i ≤ hops s e → get_or (route m e s) i 0 ≡ number m.sizes (reach g (trail g table i))
    unfolding route
    route_trail l i k =
        rw (trail_is i) (subst (λ (p : Place). get_or (route_within (hops s e) m e p) i 0 ≡ number m.sizes (reach g (onwards i (far g)))) (reach_far e s)
        (reads (hops s e) i (far g) (record { x_le = omega arith; y_le = omega arith; z_le = omega arith }) (ap (λ (p : Place). hops p e) (reach_far e s))
        (subst (λ (p : Place). T (leads m e p e)) (sym (reach_far e s)) l) k))
