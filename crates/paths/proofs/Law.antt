-- 01's law of useless nodes: "a useless node has no path .. to a working node that is not useless and lies ahead of it or level with it on
-- every counted axis." Each hop of such a path goes ahead, onto a node that works and so is useless again; the end is not. Assumes nothing.
use mathlib.Core.Path.{◌≡◌, refl, ap, ◌∙◌, subst}
use mathlib.Core.Logic.{◌↔◌, inl, inr}
use mathlib.Core.Bool.{Bool, true, false, cond, not}
use mathlib.Core.List.{List}
use Prim.Native.Nat.{ℕ}
use native.Mathlib.Omega.{arith}
use lib.Dec.{T, leb, ltb→lt, leb→le, le→leb, T_not}
use Rattle.mesh.specs.Tools.{implies}
use Rattle.mesh.specs.Mesh.{Axis, X, Y, Z, span, on, Inside}
use Rattle.mesh.specs.Steps.{next, along, ahead, runs_down}
use Rattle.mesh.specs.Cells.{Map, cell_at, faulty_cell, works, may_pass, linked, wall}
use Rattle.rules.specs.Marks.{counted, useless, holds}
use Rattle.mesh.proofs.Tests.{T-every, T-implies, tried, cond_false}
use Rattle.rules.proofs.Rule.{blocks_read}
use Rattle.rules.proofs.Marks.{useless_iff}
use Rattle.mesh.proofs.Steps.{led, next_in, room, go, put}
use Rattle.mesh.specs.declared.Sizes.{Sizes}
use Rattle.mesh.specs.declared.Place.{Place}
use Rattle.paths.specs.Differences.{preferred, same, not_behind, ahead_or_level}
use Rattle.paths.specs.Paths.{may_enter, Leads, stay, hop, Path}
use Rattle.paths.proofs.Differences.{lies, on_put, preferred_read, same_iff}
use Rattle.paths.proofs.Paths.{may_hop_iff}
use Rattle.std.specs.Prelude.{Some}

-- ---- what may be entered works, and does not block who enters it: all that the law asks of the named questions

carries : (c : ℕ) → T (may_pass c) → T (not (faulty_cell c))
unfolding may_pass
carries c t = t

no_wall : (m : Map) (p : Place) (j : ℕ) (r : Place) → T (linked m p j) → T (works m r) → T (wall m p j r) → ⊥
unfolding wall
no_wall m p j r l w t = T_not (faulty_cell (cell_at m r)) w t

entered : (m : Map) (e r : Place) → T (works m e) → T (may_enter m e r) → T (works m r)
unfolding may_enter
entered m e r w t = elim (tried (same r e)) [
  | inl s ↦ rw ((same_iff r e).0 s) w
  | inr s ↦ carries (cell_at m r) (rw (cond_false (same r e) _ _ s) at t)
]

-- ---- the way runs ahead

ahead_iff : (S : Sizes) (o : ℕ) (p e : Place) → T (ahead_or_level S o p e) ↔ ((a : Axis) → T (counted S a) → T (not_behind o p e a))
unfolding ahead_or_level
ahead_iff S o p e = (
  λ t a. (T-implies (counted S a) (not_behind o p e a)).0 ((T-every (λ a. implies (counted S a) (not_behind o p e a))).0 t a),
  λ f. (T-every (λ a. implies (counted S a) (not_behind o p e a))).1 (λ a. (T-implies (counted S a) (not_behind o p e a)).1 (f a)),
)

-- an axis on which two nodes differ counts
differs_counts : (S : Sizes) (p e : Place) → Inside S p → Inside S e → (a : Axis) (down : Bool) → T (lies down (on p a) (on e a)) → T (counted S a)
differs_counts S p e i k X true l = omega (arith, ltb→lt, le→leb)
differs_counts S p e i k X false l = omega (arith, ltb→lt, le→leb)
differs_counts S p e i k Y true l = omega (arith, ltb→lt, le→leb)
differs_counts S p e i k Y false l = omega (arith, ltb→lt, le→leb)
differs_counts S p e i k Z true l = omega (arith, ltb→lt, le→leb)
differs_counts S p e i k Z false l = omega (arith, ltb→lt, le→leb)

-- towards a node that is not behind, on an axis where they differ, is ahead; and a step that way does not pass it
runs : (down run : Bool) (c b n : ℕ) → T (room down c n) → T (lies down c b) → T (cond run (leb b c) (leb c b))
    → (down ≡ run) × T (cond run (leb b (go down c)) (leb (go down c) b))
runs true true c b n r l t = (refl, omega (arith, ltb→lt, le→leb))
runs false false c b n r l t = (refl, omega (arith, ltb→lt, le→leb))
runs true false c b n r l t = absurd (omega (arith, ltb→lt, leb→le))
runs false true c b n r l t = absurd (omega (arith, ltb→lt, leb→le))

still : (S : Sizes) (o : ℕ) (p e : Place) (a : Axis) (c : ℕ) → ((b : Axis) → T (counted S b) → T (not_behind o p e b))
    → T (not_behind o (put a p c) e a) → (b : Axis) → T (counted S b) → T (not_behind o (put a p c) e b)
still S o p e X c f t = elim [ X ↦ λ _. t | Y ↦ f Y | Z ↦ f Z ]
still S o p e Y c f t = elim [ X ↦ f X | Y ↦ λ _. t | Z ↦ f Z ]
still S o p e Z c f t = elim [ X ↦ f X | Y ↦ f Y | Z ↦ λ _. t ]

module _ (m : Map) (o : ℕ) (e : Place) (k : Inside m.sizes e) where
  -- a preferred step towards a node that is not behind goes ahead, and leaves it not behind
  goes_ahead : (p r : Place) (j : ℕ) → Inside m.sizes p → T (ahead_or_level m.sizes o p e) → next m.sizes p j ≡ Some r → T (preferred p e j)
      → ((a : Axis) × T (counted m.sizes a) × (j ≡ ahead o a)) × T (ahead_or_level m.sizes o r e)
  goes_ahead p r j i f h t =
      let (a, down, g, l) = preferred_read p e j t in
      let (s, q) = led m.sizes p i a down r (rw g at h) in
      let ct : T (counted m.sizes a) = differs_counts m.sizes p e i k a down l in
      let u = (ahead_iff m.sizes o p e).0 f in
      let (d, v) = runs down (runs_down o a) (on p a) (on e a) (span m.sizes a) s l (u a ct) in
      let c : ℕ = go down (on p a) in
      ((a, ct, g ∙ ap (along a) d), rw q ((ahead_iff m.sizes o (put a p c) e).1 (still m.sizes o p e a c u (rw (on_put a p c) v))))

  -- so every node on the way is useless, the end too
  stays_useless : T (works m e) → {p : Place} {l : List ℕ} → Leads m e p e l → Inside m.sizes p
      → T (ahead_or_level m.sizes o p e) → T (holds m o p useless) → T (holds m o e useless)
  stays_useless w (stay f) i h t = subst (λ (q : Place). T (holds m o q useless)) f t
  stays_useless w {p} (hop {r = r} j n y L) i h t =
      let (t', k', n') = (may_hop_iff m e p j r).0 y in
      let ((a, c, f), h') = goes_ahead p r j i h n t' in
      let (q, n'', b) = (blocks_read m (λ q. holds m o q useless) p j).0 (rw (← f) at (((useless_iff m o p i).0 t).1 a c)) in
      let d : q ≡ r = cc in
      elim (rw d at b) [
        | inl x ↦ absurd (no_wall m p j r k' (entered m e r w n') x)
        | inr x ↦ stays_useless w L (next_in m.sizes p r i j n) h' x
      ]

pub law : (m : Map) (o : ℕ) (p e : Place) → Inside m.sizes p → Inside m.sizes e
    → T (holds m o p useless) → T (works m e) → (T (holds m o e useless) → ⊥) → T (ahead_or_level m.sizes o p e)
    → (l : List ℕ) → Path m p e l → ⊥
law m o p e i k t w free h l path = free (stays_useless m o e k w path.leading i h t)
