-- What the mark rule asks, what blocks, and what a flat mesh leaves out. Assumes nothing.
use mathlib.Core.Path.{◌≡◌, refl, sym, ap, subst}
use mathlib.Core.Logic.{◌↔◌, ◌⊎◌, inl, inr}
use mathlib.Core.Bool.{Bool, false, ◌&&◌}
use Prim.Native.Nat.{ℕ, ◌-◌, ◌/◌, ◌%◌, ◌≤◌}
use native.Mathlib.Omega.{arith}
use lib.Dec.{T, eqb}
use Rattle.mesh.specs.Tools.{implies}
use Rattle.mesh.specs.Mesh.{Axis, X, Y, Z}
use Rattle.mesh.specs.Steps.{next, along, ahead}
use Rattle.mesh.specs.Cells.{Map, faulty, works, wall}
use Rattle.rules.specs.Marks.{counted, rule, blocks_by, blocks, marked, Ruled, Kind, useless, cant_reach, heading}
use Rattle.mesh.proofs.Tests.{T-and, T-or, T-implies, T-every, T-le, bool_ext}
use Rattle.mesh.specs.declared.Sizes.{Sizes}
use Rattle.mesh.specs.declared.Place.{Place}
use Rattle.std.specs.Prelude.{Some, None, Option}

-- ---- the rule

-- "on every counted axis"
pub rule_iff : (S : Sizes) (o : ℕ) (b : ℕ → Bool) → T (rule S o b) ↔ ((a : Axis) → T (counted S a) → T (b (ahead o a)))
unfolding rule
rule_iff S o b = (
  λ t a. (T-implies (counted S a) (b (ahead o a))).0 ((T-every (λ a. implies (counted S a) (b (ahead o a)))).0 t a),
  λ f. (T-every (λ a. implies (counted S a) (b (ahead o a)))).1 (λ a. (T-implies (counted S a) (b (ahead o a))).1 (f a)),
)

-- the more blocks, the more is marked
pub rule_grows : (S : Sizes) (o o' : ℕ) (b c : ℕ → Bool) → ((a : Axis) → T (counted S a) → T (b (ahead o a)) → T (c (ahead o' a)))
    → T (rule S o b) → T (rule S o' c)
rule_grows S o o' b c f t = (rule_iff S o' c).1 λ a k. f a k ((rule_iff S o b).0 t a k)

-- the rule depends on nothing but what lies ahead on the counted axes
pub rule_same : (S : Sizes) (o o' : ℕ) (b c : ℕ → Bool) → ((a : Axis) → T (counted S a) → b (ahead o a) ≡ c (ahead o' a))
    → rule S o b ≡ rule S o' c
rule_same S o o' b c e = bool_ext (rule S o b) (rule S o' c)
    (rule_grows S o o' b c λ a k. subst (λ (x : Bool). T x) (e a k))
    (rule_grows S o' o c b λ a k. subst (λ (x : Bool). T x) (sym (e a k)))

-- ---- what blocks

module _ (m : Map) where
  -- "A neighbour beyond the mesh's edge blocks nothing."
  pub edge_open : (mark : Place → Bool) (p : Place) (j : ℕ) → next m.sizes p j ≡ None → blocks m mark p j ≡ false
  edge_open mark p j e = rw e

  -- a faulty neighbour blocks by itself
  pub wall_faulty : (p : Place) (j : ℕ) (q : Place) → T (faulty m q) → T (wall m p j q)
  unfolding wall
  wall_faulty p j q f = f

  -- "its neighbour .. exists and is faulty or useless"
  pub blocks_read : (mark : Place → Bool) (p : Place) (j : ℕ)
      → T (blocks m mark p j) ↔ ((q : Place) × (next m.sizes p j ≡ Some q) × (T (wall m p j q) ⊎ T (mark q)))
  blocks_read mark p j = go (next m.sizes p j) refl
    where
      go : (n : Option Place) → next m.sizes p j ≡ n
          → T (blocks_by m mark p j n) ↔ ((q : Place) × (next m.sizes p j ≡ Some q) × (T (wall m p j q) ⊎ T (mark q)))
      go (Some q) e = (
        λ t. (q, e, (T-or (wall m p j q) (mark q)).0 t),
        λ r.
            let (q', e', w) = r in
            let f : q ≡ q' = cc in
            (T-or (wall m p j q) (mark q)).1 (rw f w),
      )
      go None e = (λ t. absurd t, λ r. let (q, e', w) = r in let z : ◌≡◌ {A = ℕ} 0 1 = cc in absurd (omega arith))

  -- the more is marked, the more blocks
  pub blocks_grows : (A B : Place → Bool) (p : Place) (j : ℕ) → ((q : Place) → next m.sizes p j ≡ Some q → T (A q) → T (B q))
      → T (blocks m A p j) → T (blocks m B p j)
  blocks_grows A B p j f t =
      let (q, e, w) = (blocks_read A p j).0 t in
      (blocks_read B p j).1 (q, e, elim w [ inl x ↦ inl x | inr x ↦ inr (f q e x) ])

  -- "A working node is useless if on every counted axis .."
  pub marked_iff : (o : ℕ) (mark : Place → Bool) (p : Place) → T (marked m o mark p) ↔ Ruled m (ahead o) mark p
  unfolding marked
  marked_iff o mark p = (
    λ t. let (w, r) = (T-and (works m p) (rule m.sizes o (blocks m mark p))).0 t in (w, (rule_iff m.sizes o (blocks m mark p)).0 r),
    λ r. (T-and (works m p) (rule m.sizes o (blocks m mark p))).1 (r.0, (rule_iff m.sizes o (blocks m mark p)).1 r.1),
  )

  -- the mark of a node depends on nothing but the marks of its neighbours ahead, and grows with them
  pub marked_grows : (o : ℕ) (A B : Place → Bool) (p : Place)
      → ((a : Axis) (q : Place) → next m.sizes p (ahead o a) ≡ Some q → T (A q) → T (B q))
      → T (marked m o A p) → T (marked m o B p)
  marked_grows o A B p f t =
      let (w, r) = (marked_iff o A p).0 t in
      (marked_iff o B p).1 (w, λ a k. blocks_grows A B p (ahead o a) (f a) (r a k))

-- ---- a flat mesh

module _ (S : Sizes) (flat : S.d ≡ 1) where
  -- "in a flat mesh (D = 1) only X and Y count"
  pub flat_rule : 2 ≤ S.w → 2 ≤ S.h → (o : ℕ) (b : ℕ → Bool) → rule S o b ≡ b (ahead o X) && b (ahead o Y)
  flat_rule w h o b =
      let wide : T (counted S X) = simp T-le (omega arith) in
      let high : T (counted S Y) = simp T-le (omega arith) in
      bool_ext (rule S o b) (b (ahead o X) && b (ahead o Y))
      (λ t. (T-and (b (ahead o X)) (b (ahead o Y))).1 ((rule_iff S o b).0 t X wide, (rule_iff S o b).0 t Y high))
      (λ t.
      let (x, y) = (T-and (b (ahead o X)) (b (ahead o Y))).0 t in
      (rule_iff S o b).1 (elim [ X ↦ λ k. x | Y ↦ λ k. y | Z ↦ λ k. absurd (omega (arith, simp T-le at k)) ]))

  flat_ahead : (o o' : ℕ) → o % 4 ≡ o' % 4 → (a : Axis) → T (counted S a) → ahead o a ≡ ahead o' a
  flat_ahead o o' e X k = let f : o % 2 ≡ o' % 2 = omega arith in ap (λ (r : ℕ). along X (eqb r 1)) f
  flat_ahead o o' e Y k = let f : o / 2 % 2 ≡ o' / 2 % 2 = omega arith in ap (λ (r : ℕ). along Y (eqb r 1)) f
  flat_ahead o o' e Z k = absurd (omega (arith, simp T-le at k))

  -- "and orientations 4 to 7 give what 0 to 3 give": on the counted axes they run alike
  pub flat_heading : (o : ℕ) → o ≤ 7 → (k : Kind) (a : Axis) → T (counted S a) → ahead (heading o k) a ≡ ahead (heading (o % 4) k) a
  flat_heading o l useless = flat_ahead o (o % 4) (omega arith)
  flat_heading o l cant_reach = flat_ahead (7 - o) (7 - o % 4) (omega arith)
