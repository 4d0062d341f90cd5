-- What is seen from the end of a route, on the way to its start: the nodes from which a path to the end goes on (`from_end`). So the
-- bytes of the sweep tell whether the start has a path, and which directions a node of the box is offered. Assumes nothing.
use mathlib.Core.Path.{◌≡◌, refl, sym, ap, ◌∙◌, subst}
use mathlib.Core.Logic.{inl, inr}
use mathlib.Core.Bool.{Bool, true, false, cond, not, ◌&&◌, ◌||◌}
use Prim.Native.Nat.{ℕ, ◌-◌, ◌<◌, ◌≤◌}
use native.Mathlib.Omega.{arith}
use lib.Dec.{T, ltb, ltb→lt, lt→ltb}
use Rattle.mesh.specs.Tools.{any}
use Rattle.mesh.specs.Mesh.{Axis, X, Y, Z, on, Inside}
use Rattle.mesh.specs.Steps.{next, along}
use Rattle.mesh.specs.Cells.{Map, cell_at, may_pass, may_end, linked}
use Rattle.mesh.proofs.Tests.{T-and, T-or, T-any, bool_ext, holds_true}
use Rattle.mesh.proofs.Steps.{dir_of, dir_lt, led, put}
use Rattle.mesh.specs.declared.Place.{Place}
use Rattle.paths.specs.Differences.{preferred, same}
use Rattle.paths.specs.Paths.{may_enter, begins, leads}
use Rattle.paths.specs.Offered.{offers}
use Rattle.paths.proofs.Differences.{at_eq, preferred_along, preferred_next, same_iff}
use Rattle.paths.proofs.Paths.{may_hop_iff, begins_read, leads_is}
use Rattle.paths.proofs.Reached.{start_reached}
use Rattle.rows.specs.Box.{between, reach, Within}
use Rattle.sweeps.specs.Sweep.{entry, Seen}
use Rattle.rows.proofs.Box.{reach_in}
use Rattle.sweeps.proofs.Runs.{held, run_on, origin, within_on, within_put, reach_first, reach_eq, lies_back, lies_back_not, put_back}
use Rattle.rows.specs.declared.Between.{Between}
use Rattle.std.specs.Prelude.{Some}

-- a step that leads somewhere may be taken: all that is asked of `linked` here
pub linked_to : (m : Map) (p q : Place) (j : ℕ) → next m.sizes p j ≡ Some q → T (linked m p j)
unfolding linked
linked_to m p q j h = rw h tt

-- one direction of each axis passes no test: six directions are three
any_axes : (f : ℕ → Bool) (off : Axis → Bool) → ((a : Axis) → f (along a (off a)) ≡ false)
    → any 6 f ≡ (f (along X (not (off X))) || f (along Y (not (off Y))) || f (along Z (not (off Z))))
any_axes f off none = bool_ext (any 6 f) (at X || at Y || at Z)
    (λ t.
    let (j, h, u) = (T-any 6 f).0 t in
    let (a, d, e) = dir_of j h in
    some a (one a d (off a) (none a) (rw e at u)))
    (λ t. elim ((T-or (at X || at Y) (at Z)).0 t) [ inl u ↦ elim ((T-or (at X) (at Y)).0 u) [ inl v ↦ found X v | inr v ↦ found Y v ] | inr u ↦ found Z u ])
  where
    at : Axis → Bool
    at a = f (along a (not (off a)))

    found : (a : Axis) → T (at a) → T (any 6 f)
    found a t = (T-any 6 f).1 (along a (not (off a)), dir_lt a (not (off a)), t)

    one : (a : Axis) (d o : Bool) → f (along a o) ≡ false → T (f (along a d)) → T (f (along a (not o)))
    one a true true e t = absurd (rw e at t)
    one a true false e t = t
    one a false true e t = t
    one a false false e t = absurd (rw e at t)

    some : (a : Axis) → T (at a) → T (at X || at Y || at Z)
    some X t = (T-or (at X || at Y) (at Z)).1 (inl ((T-or (at X) (at Y)).1 (inl t)))
    some Y t = (T-or (at X || at Y) (at Z)).1 (inl ((T-or (at X) (at Y)).1 (inr t)))
    some Z t = (T-or (at X || at Y) (at Z)).1 (inr t)

module _ (m : Map) (s e : Place) (s_in : Inside m.sizes s) (e_in : Inside m.sizes e) where
  abbrev g : Between
  g = between e s

  -- the direction back to the end, on an axis
  abbrev back : Axis → Bool
  back a = not (run_on g a).down

  pub node_in : (t : Place) → Within g t → Inside m.sizes (reach g t)
  node_in t w = reach_in m.sizes g t (held m.sizes e s e_in s_in) w

  wanted_back : (t : Place) → Within g t → (a : Axis) → preferred (reach g t) e (along a (back a)) ≡ ltb 0 (on t a)
  wanted_back t w a = preferred_along (reach g t) e a (back a) ∙ lies_back e s t w a

  pub step_back : (t : Place) → Within g t → (a : Axis) → 0 < on t a
      → next m.sizes (reach g t) (along a (back a)) ≡ Some (reach g (put a t (on t a - 1)))
  step_back t w a h =
      let p : T (preferred (reach g t) e (along a (back a))) = rw (wanted_back t w a) (lt→ltb 0 (on t a) h) in
      let (q, k) = preferred_next m.sizes (reach g t) e (node_in t w) e_in (along a (back a)) p in
      let (r, f) = led m.sizes (reach g t) (node_in t w) a (back a) q k in
      k ∙ ap Some (f ∙ put_back e s t w a h)

  -- a path begins so where the rest of it goes on from one step nearer
  begins_back : (rest : Place → Bool) (t : Place) → Within g t → (a : Axis)
      → begins m e rest (reach g t) (along a (back a))
      ≡ (ltb 0 (on t a) && (may_enter m e (reach g (put a t (on t a - 1))) && rest (reach g (put a t (on t a - 1)))))
  begins_back rest t w a = bool_ext (begins m e rest (reach g t) (along a (back a))) (ltb 0 (on t a) && (may_enter m e r && rest r))
      (λ b.
      let (q, h, y, u) = (begins_read m e rest (reach g t) (along a (back a))).0 b in
      let (p, l, n) = (may_hop_iff m e (reach g t) (along a (back a)) q).0 y in
      let z : T (ltb 0 (on t a)) = rw (wanted_back t w a) at p in
      let f : q ≡ r = at_eq (sym h ∙ step_back t w a (ltb→lt 0 (on t a) z)) in
      simp T-and (z, (rw f at n, rw f at u)))
      (λ b.
      let q : T (ltb 0 (on t a)) × (T (may_enter m e r) × T (rest r)) = simp T-and at b in
      let h = step_back t w a (ltb→lt 0 (on t a) q.0) in
      let p : T (preferred (reach g t) e (along a (back a))) = rw (wanted_back t w a) q.0 in
      (begins_read m e rest (reach g t) (along a (back a))).1
      (r, h, (may_hop_iff m e (reach g t) (along a (back a)) r).1 (p, linked_to m (reach g t) r (along a (back a)) h, q.1.0), q.1.1))
    where
      r : Place
      r = reach g (put a t (on t a - 1))

  begins_on : (rest : Place → Bool) (t : Place) → Within g t → (a : Axis) → begins m e rest (reach g t) (along a (run_on g a).down) ≡ false
  begins_on rest t w a = bool_ext (begins m e rest (reach g t) (along a (run_on g a).down)) false
      (λ b.
      let (q, h, y, u) = (begins_read m e rest (reach g t) (along a (run_on g a).down)).0 b in
      let p = ((may_hop_iff m e (reach g t) (along a (run_on g a).down) q).0 y).0 in
      rw (preferred_along (reach g t) e a (run_on g a).down, lies_back_not e s t w a) at p)
      (λ b. absurd b)

  -- what is seen from the end: the end, and where a path to it goes on from a node that may be passed
  pub ahead : Place → Bool
  ahead t = same t origin || (may_pass (cell_at m (reach g t)) && leads m e (reach g t) e)

  same_first : (t : Place) → Within g t → same (reach g t) e ≡ same t origin
  same_first t w = bool_ext (same (reach g t) e) (same t origin)
      (λ h. (same_iff t origin).1 (reach_eq e s t origin w (record { x_le = omega arith; y_le = omega arith; z_le = omega arith }) ((same_iff (reach g t) e).0 h ∙ sym (reach_first e s))))
      (λ h. (same_iff (reach g t) e).1 (ap (reach g) ((same_iff t origin).0 h) ∙ reach_first e s))

  module _ (ends : T (may_end (cell_at m e))) where
    -- a path may enter a node and go on from it exactly if the node is seen
    ahead_is : (t : Place) → Within g t → (may_enter m e (reach g t) && leads m e (reach g t) e) ≡ ahead t
    unfolding ahead may_enter
    ahead_is t w = split (same t origin) refl
      where
        split : (b : Bool) → same t origin ≡ b
            → (cond (same (reach g t) e) (may_end (cell_at m (reach g t))) (may_pass (cell_at m (reach g t))) && leads m e (reach g t) e)
            ≡ (b || (may_pass (cell_at m (reach g t)) && leads m e (reach g t) e))
        split true h =
            let q : reach g t ≡ e = (same_iff (reach g t) e).0 (rw (same_first t w, h) tt) in
            rw (same_first t w, h)
            (subst (λ (p : Place). (may_end (cell_at m p) && leads m e p e) ≡ true) (sym q)
            ((holds_true (may_end (cell_at m e) && leads m e e e)).0 ((T-and (may_end (cell_at m e)) (leads m e e e)).1 (ends, start_reached m e e e_in))))
        split false h = rw (same_first t w, h)

    -- the paths of a node of the box go on from the seen nodes one step nearer
    pub leads_entry : (t : Place) → Within g t → leads m e (reach g t) e ≡ (same t origin || entry ahead t)
    leads_entry t w =
        leads_is m e (reach g t) e (node_in t w)
        ∙ rw (
          same_first t w,
          any_axes (begins m e rest (reach g t)) (λ a. (run_on g a).down) (begins_on rest t w),
          at X (omega (arith, w.x_le)),
          at Y (omega (arith, w.y_le)),
          at Z (omega (arith, w.z_le)),
        )
      where
        rest : Place → Bool
        rest r = leads m e r e

        at : (a : Axis) → on t a - 1 ≤ (run_on g a).steps
            → begins m e rest (reach g t) (along a (back a)) ≡ (ltb 0 (on t a) && ahead (put a t (on t a - 1)))
        at a h = begins_back rest t w a ∙ ap (λ (v : Bool). ltb 0 (on t a) && v) (ahead_is (put a t (on t a - 1)) (within_put g t w a (on t a - 1) h))

    pub from_end : Seen m g ahead
    unfolding ahead
    from_end = record {
      corner = refl;
      later = λ t w off. rw (at_origin t off) (ap (λ (v : Bool). may_pass (cell_at m (reach g t)) && v) (leads_entry t w ∙ rw (at_origin t off)));
    }
      where
        at_origin : (t : Place) → (t ≡ origin → ⊥) → same t origin ≡ false
        at_origin t off = bool_ext (same t origin) false (λ h. off ((same_iff t origin).0 h)) (λ h. absurd h)

    -- the directions that a node of the box is offered: those back to the end, where the node one step nearer is seen
    pub offers_back : (t : Place) → Within g t → (a : Axis)
        → offers m e (reach g t) (along a (back a)) ≡ (ltb 0 (on t a) && ahead (put a t (on t a - 1)))
    unfolding offers
    offers_back t w a =
        begins_back (λ r. leads m e r e) t w a
        ∙ ap (λ (v : Bool). ltb 0 (on t a) && v) (ahead_is (put a t (on t a - 1)) (within_put g t w a (on t a - 1) (less (on t a) (within_on g t w a))))
      where
        less : {n : ℕ} (i : ℕ) → i ≤ n → i - 1 ≤ n
        less i h = omega arith

    pub offers_on : (t : Place) → Within g t → (a : Axis) → offers m e (reach g t) (along a (run_on g a).down) ≡ false
    unfolding offers
    offers_on t w a = begins_on (λ r. leads m e r e) t w a
