-- The two marks as 01 says them, in a flat mesh too, and in steps left. Assumes nothing.
use mathlib.Core.Path.{◌≡◌, refl, ap, ◌∙◌, sym, subst, fun_ext}
use mathlib.Core.Logic.{◌↔◌}
use mathlib.Core.Bool.{Bool, true, false, cond, not, ◌&&◌, ◌||◌}
use Prim.Native.Nat.{ℕ, zero, suc, ◌+◌, ◌-◌, ◌%◌, ◌≤◌}
use lib.Dec.{T, ltb}
use lib.ListN.{length, get_or}
use Rattle.mesh.specs.Tools.{implies, table}
use Rattle.mesh.specs.Mesh.{Axis, on, every, nodes, Inside, number, place_of}
use Rattle.mesh.specs.Steps.{ahead, behind, reversed}
use Rattle.mesh.specs.Cells.{Map, faulty, works, wall}
use Rattle.rules.specs.Marks.{counted, rule, blocks_by, blocks, marked, stuck_within, stuck, Kind, useless, cant_reach, heading, holds, Ruled, Rules, Closed, byte_of, mark_at, marks_of, to_go, shut}
use Rattle.mesh.proofs.Tests.{bool_ext, holds_true}
use Rattle.mesh.proofs.Tables.{length_table, get_d_table}
use Rattle.mesh.proofs.Numbers.{number_lt, place_of_lem}
use Rattle.mesh.proofs.Steps.{reversed_behind, put, next_in}
use Rattle.rules.proofs.Rule.{rule_same, blocks_grows, marked_iff, flat_heading}
use Rattle.rules.proofs.Left.{to_go_in, next_left}
use Rattle.rules.proofs.Stuck.{stuck_is, unique, least}
use Rattle.mesh.specs.declared.Place.{Place}
use Rattle.std.specs.Prelude.{Some, None}

-- ---- the two marks

-- "A working node is useless if on every counted axis its neighbour ahead exists and is faulty or useless." (`blocks_read` says the last part.)
pub useless_iff : (m : Map) (o : ℕ) (p : Place) → Inside m.sizes p → T (holds m o p useless) ↔ Ruled m (ahead o) (λ q. holds m o q useless) p
useless_iff m o p i = rw (stuck_is m o p i) (marked_iff m o (stuck m o) p)

-- "It is can't-reach if on every counted axis its neighbour behind exists and is faulty or can't-reach."
pub cant_reach_iff : (m : Map) (o : ℕ) → o ≤ 7 → (p : Place) → Inside m.sizes p
    → T (holds m o p cant_reach) ↔ Ruled m (behind o) (λ q. holds m o q cant_reach) p
cant_reach_iff m o l p i = subst (λ (side : Axis → ℕ). T (holds m o p cant_reach) ↔ Ruled m side (λ q. holds m o q cant_reach) p)
    (fun_ext (reversed_behind o l))
    (useless_iff m (reversed o) p i)

-- the marks satisfy 01's rules, and no other marks do
pub rules_hold : (m : Map) (o : ℕ) → o ≤ 7 → Rules m o (λ k p. holds m o p k)
rules_hold m o l = record { of_useless = useless_iff m o; of_cant_reach = cant_reach_iff m o l }

pub rules_only : (m : Map) (o : ℕ) → o ≤ 7 → (marks : Kind → Place → Bool) → Rules m o marks
    → (k : Kind) (p : Place) → Inside m.sizes p → marks k p ≡ holds m o p k
rules_only m o l marks r = elim [
  | useless ↦ only o (marks useless) r.of_useless
  | cant_reach ↦ only (reversed o) (marks cant_reach)
      (subst (λ (side : Axis → ℕ). (p : Place) → Inside m.sizes p → T (marks cant_reach p) ↔ Ruled m side (marks cant_reach) p)
      (sym (fun_ext (reversed_behind o l))) r.of_cant_reach)
]
  where
    only : (o : ℕ) (mark : Place → Bool) → ((p : Place) → Inside m.sizes p → T (mark p) ↔ Ruled m (ahead o) mark p)
        → (p : Place) → Inside m.sizes p → mark p ≡ stuck m o p
    only o mark f = unique m o mark λ q i. bool_ext (mark q) (marked m o mark q)
        (λ t. (marked_iff m o mark q).1 ((f q i).0 t))
        (λ t. (f q i).1 ((marked_iff m o mark q).0 t))

-- and they are the least: marks that leave out no node which a rule marks have all of them
pub rules_least : (m : Map) (o : ℕ) → o ≤ 7 → (marks : Kind → Place → Bool) → Closed m o marks
    → (k : Kind) (p : Place) → Inside m.sizes p → T (holds m o p k) → T (marks k p)
rules_least m o l marks c = elim [
  | useless ↦ least m o (marks useless) λ q i t. c.of_useless q i ((marked_iff m o (marks useless) q).0 t)
  | cant_reach ↦ least m (reversed o) (marks cant_reach) λ q i t. c.of_cant_reach q i
      (subst (λ (side : Axis → ℕ). Ruled m side (marks cant_reach) q) (fun_ext (reversed_behind o l)) ((marked_iff m (reversed o) (marks cant_reach) q).0 t))
]

-- the rules are about the nodes of the mesh alone
pub rules_same : (m : Map) (o : ℕ) (A B : Kind → Place → Bool) → ((k : Kind) (p : Place) → Inside m.sizes p → A k p ≡ B k p)
    → Rules m o A → Rules m o B
rules_same m o A B e r = record {
  of_useless = λ p i. moved useless (ahead o) p i (r.of_useless p i);
  of_cant_reach = λ p i. moved cant_reach (behind o) p i (r.of_cant_reach p i);
}
  where
    ruled : (A B : Place → Bool) → ((q : Place) → Inside m.sizes q → A q ≡ B q) → (side : Axis → ℕ) (p : Place) → Inside m.sizes p
        → Ruled m side A p → Ruled m side B p
    ruled A B e side p i x = (
      x.0,
      λ a c. blocks_grows m A B p (side a) (λ q f. subst (λ (t : Bool). T t) (e q (next_in m.sizes p q i (side a) f))) (x.1 a c),
    )

    moved : (k : Kind) (side : Axis → ℕ) (p : Place) → Inside m.sizes p → T (A k p) ↔ Ruled m side (A k) p → T (B k p) ↔ Ruled m side (B k) p
    moved k side p i h = (
      λ t. ruled (A k) (B k) (e k) side p i (h.0 (subst (λ (t : Bool). T t) (sym (e k p i)) t)),
      λ x. subst (λ (t : Bool). T t) (e k p i) (h.1 (ruled (B k) (A k) (λ q iq. sym (e k q iq)) side p i x)),
    )

-- of a working node, the mark is what the rule says
pub works_is : (m : Map) (o : ℕ) (p : Place) → Inside m.sizes p → T (works m p) → stuck m o p ≡ rule m.sizes o (blocks m (stuck m o) p)
unfolding marked
works_is m o p i w = stuck_is m o p i ∙ ap (λ (t : Bool). t && rule m.sizes o (blocks m (stuck m o) p)) ((holds_true (works m p)).0 w)

-- ---- a flat mesh

-- two orientations that run alike on the counted axes give the same marks
pub stuck_same : (m : Map) (o o' : ℕ) → ((a : Axis) → T (counted m.sizes a) → ahead o a ≡ ahead o' a)
    → (p : Place) → stuck m o p ≡ stuck m o' p
unfolding stuck stuck_within marked
stuck_same m o o' e = go (m.sizes.w + m.sizes.h + m.sizes.d)
  where
    go : (n : ℕ) (p : Place) → stuck_within n m o p ≡ stuck_within n m o' p
    go zero p = refl
    go (suc n) p =
        let A : Place → Bool = stuck_within n m o in
        let B : Place → Bool = stuck_within n m o' in
        ap (λ (t : Bool). works m p && t) (rule_same m.sizes o o' (blocks m A p) (blocks m B p) λ a c.
        ap (λ (mark : Place → Bool). blocks m mark p (ahead o a)) (fun_ext (go n)) ∙ ap (blocks m B p) (e a c))

-- "orientations 4 to 7 give what 0 to 3 give"
pub flat_holds : (m : Map) → m.sizes.d ≡ 1 → (o : ℕ) → o ≤ 7 → (p : Place) (k : Kind) → holds m o p k ≡ holds m (o % 4) p k
flat_holds m flat o l p k = stuck_same m (heading o k) (heading (o % 4) k) (flat_heading m.sizes flat o l k) p

pub flat_marks : (m : Map) → m.sizes.d ≡ 1 → (o : ℕ) → o ≤ 7 → (p : Place) → mark_at m o p ≡ mark_at m (o % 4) p
unfolding mark_at
flat_marks m flat o l p = ap (λ (h : Kind → Bool). cond (faulty m p) 1 (byte_of h)) (fun_ext (flat_holds m flat o l p))

pub flat_list : (m : Map) → m.sizes.d ≡ 1 → (o : ℕ) → o ≤ 7 → marks_of m o ≡ marks_of m (o % 4)
unfolding marks_of
flat_list m flat o l =
    ap (λ (f : ℕ → ℕ). table f (nodes m.sizes)) (fun_ext λ k. flat_marks m flat o l (place_of m.sizes k))

-- ---- the mark bytes of a map: one for each node, at its number

pub marks_length : (m : Map) (o : ℕ) → length (marks_of m o) ≡ nodes m.sizes
unfolding marks_of
marks_length m o = length_table (λ k. mark_at m o (place_of m.sizes k)) (nodes m.sizes)

pub marks_at : (m : Map) (o : ℕ) (p : Place) → Inside m.sizes p → get_or (marks_of m o) (number m.sizes p) 0 ≡ mark_at m o p
unfolding marks_of
marks_at m o p i =
    get_d_table (λ k. mark_at m o (place_of m.sizes k)) (nodes m.sizes) (number m.sizes p) 0 (number_lt m.sizes p i)
    ∙ ap (mark_at m o) (place_of_lem m.sizes p i)

-- ---- in steps left

module _ (m : Map) (o : ℕ) (s : Place) where
  -- the place with s steps left, and the one with a step less on an axis
  abbrev here : Place
  here = to_go m.sizes o s

  abbrev onward : Axis → Place
  onward a = to_go m.sizes o (put a s (on s a - 1))

  -- what lies ahead on an axis blocks if a step is left and it is faulty or marked
  pub blocks_left : Inside m.sizes s → (mark : Place → Bool) (a : Axis)
      → blocks m mark here (ahead o a) ≡ ltb 0 (on s a) && (wall m here (ahead o a) (onward a) || mark (onward a))
  blocks_left i mark a = ap (blocks_by m mark here (ahead o a)) (next_left m.sizes o s i a) ∙ tested (ltb 0 (on s a))
    where
      tested : (t : Bool)
          → blocks_by m mark here (ahead o a) (cond t (Some (onward a)) None) ≡ t && (wall m here (ahead o a) (onward a) || mark (onward a))
      tested true = refl
      tested false = refl

  -- a place is shut if it is faulty, or if on every counted axis a step is left and leads to a place that is shut
  pub shut_step : Inside m.sizes s
      → shut m o here ≡ faulty m here || every λ a. implies (counted m.sizes a) (ltb 0 (on s a) && shut m o (onward a))
  unfolding marked rule wall
  shut_step i =
      ap (λ (t : Bool). faulty m here || t) (stuck_is m o here (to_go_in m.sizes o s i))
      ∙ or_not (faulty m here) (rule m.sizes o (blocks m (stuck m o) here))
      ∙ ap (λ (t : Axis → Bool). faulty m here || every t) (fun_ext λ a. ap (implies (counted m.sizes a)) (blocks_left i (stuck m o) a))
    where
      or_not : (f e : Bool) → f || (not f && e) ≡ f || e
      or_not true e = refl
      or_not false e = refl
