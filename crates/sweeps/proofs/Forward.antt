-- What is seen from the start of a route, on the way to its end: the nodes that preferred steps lead to (`from_start`). Such steps never
-- leave the box between the two, so no other node is reached (`boxed`). Assumes nothing.
use mathlib.Core.Path.{◌≡◌, refl, sym, ap, ◌∙◌, subst}
use mathlib.Core.Logic.{◌↔◌, inl, inr}
use mathlib.Core.Bool.{Bool, true, false, not, ◌&&◌, ◌||◌}
use mathlib.Core.List.{List}
use Prim.Native.Nat.{ℕ, ◌+◌, ◌-◌, ◌<◌, ◌≤◌}
use native.Mathlib.Omega.{arith}
use lib.Dec.{T, ltb, ltb→lt, lt→ltb}
use Rattle.mesh.specs.Mesh.{Axis, X, Y, Z, on, Inside}
use Rattle.mesh.specs.Steps.{next, along}
use Rattle.mesh.specs.Cells.{Map, cell_at, may_pass, may_end}
use Rattle.mesh.proofs.Tests.{T-and, T-or, tried, bool_ext, cond_true, cond_false, holds_true}
use Rattle.mesh.proofs.Steps.{led, put}
use Rattle.mesh.specs.declared.Place.{Place}
use Rattle.paths.specs.Differences.{preferred, same}
use Rattle.paths.specs.Paths.{may_enter, Leads, stay, hop, leads}
use Rattle.paths.proofs.Differences.{at_eq, lies, on_put, preferred_along, preferred_read, preferred_next, same_iff}
use Rattle.paths.proofs.Paths.{may_hop_iff, leads_iff}
use Rattle.paths.proofs.Reached.{start_reached, reached_on, reached_iff}
use Rattle.rows.specs.Box.{between, reach, far, Within}
use Rattle.sweeps.specs.Sweep.{entry, Seen}
use Rattle.rows.proofs.Box.{reach_in}
use Rattle.sweeps.proofs.Runs.{held, run_on, origin, put_put, within_on, within_put, reach_first, reach_far, reach_eq, lies_on, lies_on_not, put_on}
use Rattle.sweeps.proofs.Backward.{linked_to}
use Rattle.rows.specs.declared.Between.{Between}
use Rattle.std.specs.Prelude.{Some}

module _ (m : Map) (s e : Place) (s_in : Inside m.sizes s) (e_in : Inside m.sizes e) where
  abbrev g : Between
  g = between s e

  node_in : (t : Place) → Within g t → Inside m.sizes (reach g t)
  node_in t w = reach_in m.sizes g t (held m.sizes s e s_in e_in) w

  wanted_on : (t : Place) → Within g t → (a : Axis) → preferred (reach g t) e (along a (run_on g a).down) ≡ ltb (on t a) (run_on g a).steps
  wanted_on t w a = preferred_along (reach g t) e a (run_on g a).down ∙ lies_on s e t w a

  -- a preferred step from a node of the box leads to a node of the box, one step farther
  step_on : (t : Place) → Within g t → (a : Axis) → on t a < (run_on g a).steps
      → next m.sizes (reach g t) (along a (run_on g a).down) ≡ Some (reach g (put a t (on t a + 1)))
  step_on t w a h =
      let p : T (preferred (reach g t) e (along a (run_on g a).down)) = rw (wanted_on t w a) (lt→ltb (on t a) (run_on g a).steps h) in
      let (q, k) = preferred_next m.sizes (reach g t) e (node_in t w) e_in (along a (run_on g a).down) p in
      let (r, f) = led m.sizes (reach g t) (node_in t w) a (run_on g a).down q k in
      k ∙ ap Some (f ∙ put_on s e t w a h)

  hop_on : (t r : Place) (j : ℕ) → Within g t → next m.sizes (reach g t) j ≡ Some r → T (preferred (reach g t) e j)
      → (a : Axis) × (on t a < (run_on g a).steps) × (r ≡ reach g (put a t (on t a + 1)))
  hop_on t r j w h p =
      let (a, d, k, l) = preferred_read (reach g t) e j p in
      let (f, l') = runs a d (run_on g a).down (lies_on_not s e t w a) l in
      let z : on t a < (run_on g a).steps = ltb→lt (on t a) (run_on g a).steps (rw (lies_on s e t w a) at l') in
      (a, z, at_eq (sym h ∙ ap (next m.sizes (reach g t)) (k ∙ ap (along a) f) ∙ step_on t w a z))
    where
      runs : (a : Axis) (d o : Bool) → lies (not o) (on (reach g t) a) (on e a) ≡ false → T (lies d (on (reach g t) a) (on e a))
          → (d ≡ o) × T (lies o (on (reach g t) a) (on e a))
      runs a true true f l = (refl, l)
      runs a true false f l = absurd (rw f at l)
      runs a false true f l = absurd (rw f at l)
      runs a false false f l = (refl, l)

  -- so preferred steps never leave the box
  stays : {p q : Place} {l : List ℕ} → Leads m e p q l → (t : Place) → Within g t → p ≡ reach g t → (t' : Place) × Within g t' × (q ≡ reach g t')
  stays (stay f) t w h = (t, w, sym f ∙ h)
  stays (hop {r = r} j n y L) t w h =
      let (a, z, f) = hop_on t r j w (rw h at n) ((may_hop_iff m e (reach g t) j r).0 (rw h at y)).0 in
      stays L (put a t (on t a + 1)) (within_put g t w a (on t a + 1) (up z)) f
    where
      up : {i n : ℕ} → i < n → i + 1 ≤ n
      up h = omega arith

  zero_in : Within g origin
  zero_in = record { x_le = omega arith; y_le = omega arith; z_le = omega arith }

  pub boxed : (q : Place) → T (leads m e s q) → (t : Place) × Within g t × (q ≡ reach g t)
  boxed q h = let (l, L) = (leads_iff m e s q s_in).0 h in stays L origin zero_in (sym (reach_first s e))

  -- what is seen from the start: the start, and what is reached and may be passed
  pub behind : Place → Bool
  behind t = same t origin || (may_pass (cell_at m (reach g t)) && leads m e s (reach g t))

  not_origin : (t : Place) → (t ≡ origin → ⊥) → same t origin ≡ false
  not_origin t off = bool_ext (same t origin) false (λ h. off ((same_iff t origin).0 h)) (λ h. absurd h)

  -- a node is entered by a hop from a reached node one step before it
  entered_iff : (t : Place) → Within g t → (t ≡ origin → ⊥) → T (leads m e s (reach g t))
      ↔ ((a : Axis) × (0 < on t a) × T (leads m e s (reach g (put a t (on t a - 1)))) × T (may_enter m e (reach g t)))
  entered_iff t w off = (
    λ h. elim ((reached_iff m e s s_in (reach g t)).0 h) [
      | inl f ↦ absurd (off (reach_eq s e t origin w zero_in (sym f ∙ sym (reach_first s e))))
      | inr d ↦
          let (p, j, u, n, y) = d in
          let (t', w', f) = boxed p u in
          let (q, l, k) = (may_hop_iff m e (reach g t') j (reach g t)).0 (rw f at y) in
          let (a, z, r) = hop_on t' (reach g t) j w' (rw f at n) q in
          let (b, c) = before a t t' (reach_eq s e t (put a t' (on t' a + 1)) w (within_put g t' w' a (on t' a + 1) (up z)) r) in
          (a, b, rw c (rw f at u), k)
    ],
    λ d.
        let (a, z, u, k) = d in
        let t' : Place = put a t (on t a - 1) in
        let w' : Within g t' = within_put g t w a (on t a - 1) (less (on t a) (within_on g t w a)) in
        let c : on t' a < (run_on g a).steps = rw (on_put a t (on t a - 1)) (down (on t a) z (within_on g t w a)) in
        let n : next m.sizes (reach g t') (along a (run_on g a).down) ≡ Some (reach g t) = step_on t' w' a c ∙ ap (λ (t : Place). Some (reach g t)) (after a t z) in
        let q : T (preferred (reach g t') e (along a (run_on g a).down)) = rw (wanted_on t' w' a) (lt→ltb (on t' a) (run_on g a).steps c) in
        reached_on m e s s_in (reach g t') (reach g t) (along a (run_on g a).down) u n
        ((may_hop_iff m e (reach g t') (along a (run_on g a).down) (reach g t)).1 (q, linked_to m (reach g t') (reach g t) (along a (run_on g a).down) n, k)),
  )
    where
      up : {i n : ℕ} → i < n → i + 1 ≤ n
      up h = omega arith

      less : {n : ℕ} (i : ℕ) → i ≤ n → i - 1 ≤ n
      less i h = omega arith

      down : {n : ℕ} (i : ℕ) → 0 < i → i ≤ n → i - 1 < n
      down i z h = omega arith

      before : (a : Axis) (t t' : Place) → t ≡ put a t' (on t' a + 1) → (0 < on t a) × (put a t (on t a - 1) ≡ t')
      before a t t' f =
          let c : on t a ≡ on t' a + 1 = ap (λ (p : Place). on p a) f ∙ on_put a t' (on t' a + 1) in
          let d : on t a - 1 ≡ on t' a = omega arith in
          (omega arith, rw d (rw f (put_put a t' (on t' a + 1))))

      after : (a : Axis) (t : Place) → 0 < on t a → put a (put a t (on t a - 1)) (on (put a t (on t a - 1)) a + 1) ≡ t
      after a t z =
          let c : on (put a t (on t a - 1)) a + 1 ≡ on t a = rw (on_put a t (on t a - 1)) (omega arith) in
          rw c (put_put a t (on t a - 1))

  far_within : Within g (far g)
  far_within = record { x_le = omega arith; y_le = omega arith; z_le = omega arith }

  on_far : (a : Axis) → on (far g) a ≡ (run_on g a).steps
  on_far X = refl
  on_far Y = refl
  on_far Z = refl

  -- one step before any node is not the end
  before_far : (t : Place) → Within g t → (a : Axis) → 0 < on t a → put a t (on t a - 1) ≡ far g → ⊥
  before_far t w a z f = omega (arith, within_on g t w a, sym (on_put a t (on t a - 1)) ∙ ap (λ (p : Place). on p a) f ∙ on_far a)

  passes : (t : Place) → Within g t → (t ≡ far g → ⊥) → may_enter m e (reach g t) ≡ may_pass (cell_at m (reach g t))
  unfolding may_enter
  passes t w off = cond_false (same (reach g t) e) (may_end (cell_at m (reach g t))) (may_pass (cell_at m (reach g t))) (elim (tried (same (reach g t) e)) [
    | inl h ↦ absurd (off (reach_eq s e t (far g) w far_within ((same_iff (reach g t) e).0 h ∙ sym (reach_far s e))))
    | inr h ↦ h
  ])

  -- before the end, seen is reached
  pub behind_is : (t : Place) → Within g t → (t ≡ far g → ⊥) → behind t ≡ leads m e s (reach g t)
  unfolding behind
  behind_is t w off = split (same t origin) refl
    where
      split : (b : Bool) → same t origin ≡ b → (b || (may_pass (cell_at m (reach g t)) && leads m e s (reach g t))) ≡ leads m e s (reach g t)
      split true h =
          let q : reach g t ≡ s = ap (reach g) ((same_iff t origin).0 (rw h tt)) ∙ reach_first s e in
          sym (subst (λ (p : Place). leads m e s p ≡ true) (sym q) ((holds_true (leads m e s s)).0 (start_reached m e s s_in)))
      split false h = bool_ext (may_pass (cell_at m (reach g t)) && leads m e s (reach g t)) (leads m e s (reach g t))
          (λ b. ((T-and (may_pass (cell_at m (reach g t))) (leads m e s (reach g t))).0 b).1)
          (λ b.
          let (a, z, u, k) = (entered_iff t w (λ f. subst (λ (b : Bool). T b) h ((same_iff t origin).1 f))).0 b in
          (T-and (may_pass (cell_at m (reach g t))) (leads m e s (reach g t))).1 (rw (passes t w off) at k, b))

  entry_iff : (t : Place) → T (entry behind t) ↔ ((a : Axis) × (0 < on t a) × T (behind (put a t (on t a - 1))))
  entry_iff t = (
    λ h. elim ((T-or (at X || at Y) (at Z)).0 h) [
      | inl u ↦ elim ((T-or (at X) (at Y)).0 u) [ inl v ↦ taken X v | inr v ↦ taken Y v ]
      | inr u ↦ taken Z u
    ],
    λ d. some d.0 ((T-and (ltb 0 (on t d.0)) (behind (put d.0 t (on t d.0 - 1)))).1 (lt→ltb 0 (on t d.0) d.1, d.2)),
  )
    where
      at : Axis → Bool
      at a = ltb 0 (on t a) && behind (put a t (on t a - 1))

      taken : (a : Axis) → T (at a) → (a : Axis) × (0 < on t a) × T (behind (put a t (on t a - 1)))
      taken a v = let (z, u) = (T-and (ltb 0 (on t a)) (behind (put a t (on t a - 1)))).0 v in (a, ltb→lt 0 (on t a) z, u)

      some : (a : Axis) → T (at a) → T (entry behind t)
      some X v = (T-or (at X || at Y) (at Z)).1 (inl ((T-or (at X) (at Y)).1 (inl v)))
      some Y v = (T-or (at X || at Y) (at Z)).1 (inl ((T-or (at X) (at Y)).1 (inr v)))
      some Z v = (T-or (at X || at Y) (at Z)).1 (inr v)

  leads_entry : (t : Place) → Within g t → (t ≡ origin → ⊥) → T (leads m e s (reach g t)) ↔ (T (may_enter m e (reach g t)) × T (entry behind t))
  leads_entry t w off = (
    λ h.
        let (a, z, u, k) = (entered_iff t w off).0 h in
        (k, (entry_iff t).1 (a, z, rw (is a z) u)),
    λ d.
        let (a, z, u) = (entry_iff t).0 d.1 in
        (entered_iff t w off).1 (a, z, rw (is a z) at u, d.0),
  )
    where
      less : {n : ℕ} (i : ℕ) → i ≤ n → i - 1 ≤ n
      less i h = omega arith

      is : (a : Axis) → 0 < on t a → behind (put a t (on t a - 1)) ≡ leads m e s (reach g (put a t (on t a - 1)))
      is a z = behind_is (put a t (on t a - 1)) (within_put g t w a (on t a - 1) (less (on t a) (within_on g t w a))) (before_far t w a z)

  module _ (ends : T (may_end (cell_at m e))) where
    enters : (p : Place) → T (may_pass (cell_at m p)) → T (may_enter m e p)
    unfolding may_enter
    enters p h = elim (tried (same p e)) [
      | inl q ↦ rw (cond_true (same p e) (may_end (cell_at m p)) (may_pass (cell_at m p)) q) (subst (λ (r : Place). T (may_end (cell_at m r))) (sym ((same_iff p e).0 q)) ends)
      | inr q ↦ rw (cond_false (same p e) (may_end (cell_at m p)) (may_pass (cell_at m p)) q) h
    ]

    at_end : T (may_enter m e e)
    unfolding may_enter
    at_end = rw (cond_true (same e e) (may_end (cell_at m e)) (may_pass (cell_at m e)) ((same_iff e e).1 refl)) ends

    pub from_start : Seen m g behind
    unfolding behind
    from_start = record {
      corner = refl;
      later = λ t w off. rw (not_origin t off) (bool_ext (may_pass (cell_at m (reach g t)) && leads m e s (reach g t)) (may_pass (cell_at m (reach g t)) && entry behind t)
          (λ h.
          let (p, l) = (T-and (may_pass (cell_at m (reach g t))) (leads m e s (reach g t))).0 h in
          (T-and (may_pass (cell_at m (reach g t))) (entry behind t)).1 (p, ((leads_entry t w off).0 l).1))
          (λ h.
          let (p, l) = (T-and (may_pass (cell_at m (reach g t))) (entry behind t)).0 h in
          (T-and (may_pass (cell_at m (reach g t))) (leads m e s (reach g t))).1 (p, (leads_entry t w off).1 (enters (reach g t) p, l))));
    }

    -- the end is reached if it is the start, or entered from a seen node
    pub end_entry : leads m e s e ≡ (same (far g) origin || entry behind (far g))
    end_entry = split (same (far g) origin) refl
      where
        split : (b : Bool) → same (far g) origin ≡ b → leads m e s e ≡ (b || entry behind (far g))
        split true h =
            let q : e ≡ s = sym (reach_far s e) ∙ ap (reach g) ((same_iff (far g) origin).0 (rw h tt)) ∙ reach_first s e in
            subst (λ (p : Place). leads m e s p ≡ true) (sym q) ((holds_true (leads m e s s)).0 (start_reached m e s s_in))
        split false h =
            let off : far g ≡ origin → ⊥ = λ f. subst (λ (b : Bool). T b) h ((same_iff (far g) origin).1 f) in
            let k : T (may_enter m e (reach g (far g))) = subst (λ (p : Place). T (may_enter m e p)) (sym (reach_far s e)) at_end in
            ap (leads m e s) (sym (reach_far s e))
            ∙ bool_ext (leads m e s (reach g (far g))) (entry behind (far g))
            (λ l. ((leads_entry (far g) far_within off).0 l).1)
            (λ l. (leads_entry (far g) far_within off).1 (k, l))
