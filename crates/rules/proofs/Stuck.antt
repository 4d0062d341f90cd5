-- `stuck` is the one assignment of marks that satisfies the rule at every node, and the least: each step ahead leaves fewer steps, so that
-- looking W + H + D steps ahead is enough. Assumes nothing.
use mathlib.Core.Path.{◌≡◌, sym, ◌∙◌, subst}
use mathlib.Core.Logic.{◌↔◌, inl, inr}
use mathlib.Core.Bool.{Bool}
use Prim.Native.Nat.{ℕ, zero, suc, ◌+◌, ◌<◌}
use native.Mathlib.Omega.{arith}
use native.Mathlib.Nat.{not-suc-le-zero}
use lib.Dec.{T}
use Rattle.mesh.specs.Mesh.{Inside}
use Rattle.mesh.specs.Steps.{ahead}
use Rattle.mesh.specs.Cells.{Map}
use Rattle.rules.specs.Marks.{blocks, marked, stuck_within, stuck, Blocks, by_wall, by_mark, Stuck}
use Rattle.mesh.proofs.Tests.{bool_ext}
use Rattle.mesh.proofs.Steps.{next_in}
use Rattle.rules.proofs.Rule.{blocks_read, marked_iff, marked_grows}
use Rattle.rules.proofs.Left.{left, left_lt, nearer}
use Rattle.mesh.specs.declared.Place.{Place}

module _ (m : Map) (o : ℕ) where
  abbrev to_end : Place → ℕ
  to_end p = left m.sizes o p

  -- the rule at p is about nodes of the mesh with fewer steps left
  near_grows : (A B : Place → Bool) (p : Place) → Inside m.sizes p
      → ((q : Place) → Inside m.sizes q → to_end q < to_end p → T (A q) → T (B q)) → T (marked m o A p) → T (marked m o B p)
  near_grows A B p i f = marked_grows m o A B p λ a q e. f q (next_in m.sizes p q i (ahead o a) e) (nearer m.sizes o p q a i e)

  near_same : (A B : Place → Bool) (p : Place) → Inside m.sizes p
      → ((q : Place) → Inside m.sizes q → to_end q < to_end p → A q ≡ B q) → marked m o A p ≡ marked m o B p
  near_same A B p i f = bool_ext (marked m o A p) (marked m o B p)
      (near_grows A B p i λ q iq l. subst (λ (x : Bool). T x) (f q iq l))
      (near_grows B A p i λ q iq l. subst (λ (x : Bool). T x) (sym (f q iq l)))

  -- looking further than the steps left shows nothing new
  enough : (n k : ℕ) (p : Place) → Inside m.sizes p → to_end p < n → to_end p < k → stuck_within n m o p ≡ stuck_within k m o p
  unfolding stuck_within
  enough zero k p i l r = absurd (not-suc-le-zero l)
  enough (suc n) zero p i l r = absurd (not-suc-le-zero r)
  enough (suc n) (suc k) p i l r = near_same (stuck_within n m o) (stuck_within k m o) p i λ q iq h. enough n k q iq (omega arith) (omega arith)

  -- the rule holds at every node of the mesh
  pub stuck_is : (p : Place) → Inside m.sizes p → stuck m o p ≡ marked m o (stuck m o) p
  unfolding stuck stuck_within
  stuck_is p i =
      let n : ℕ = m.sizes.w + m.sizes.h + m.sizes.d in
      let l : to_end p < n = left_lt m.sizes o p i in
      enough n (suc n) p i l (omega arith)

  -- no other assignment satisfies the rule at every node
  pub unique : (A : Place → Bool) → ((q : Place) → Inside m.sizes q → A q ≡ marked m o A q)
      → (p : Place) → Inside m.sizes p → A p ≡ stuck m o p
  unique A r p i = go (suc (to_end p)) p i (omega arith)
    where
      go : (n : ℕ) (p : Place) → Inside m.sizes p → to_end p < n → A p ≡ stuck m o p
      go zero p i l = absurd (not-suc-le-zero l)
      go (suc n) p i l = r p i ∙ near_same A (stuck m o) p i (λ q iq h. go n q iq (omega arith)) ∙ sym (stuck_is p i)

  -- the least: an assignment that marks each node which the rule marks has all of these marks
  pub least : (A : Place → Bool) → ((q : Place) → Inside m.sizes q → T (marked m o A q) → T (A q))
      → (p : Place) → Inside m.sizes p → T (stuck m o p) → T (A p)
  least A r p i = go (suc (to_end p)) p i (omega arith)
    where
      go : (n : ℕ) (p : Place) → Inside m.sizes p → to_end p < n → T (stuck m o p) → T (A p)
      go zero p i l t = absurd (not-suc-le-zero l)
      go (suc n) p i l t = r p i (near_grows (stuck m o) A p i (λ q iq h. go n q iq (omega arith)) (rw (stuck_is p i) at t))

  -- and the greatest that it allows: whatever marks only nodes that the rule marks
  pub greatest : (A : Place → Bool) → ((q : Place) → Inside m.sizes q → T (A q) → T (marked m o A q))
      → (p : Place) → Inside m.sizes p → T (A p) → T (stuck m o p)
  greatest A r p i = go (suc (to_end p)) p i (omega arith)
    where
      go : (n : ℕ) (p : Place) → Inside m.sizes p → to_end p < n → T (A p) → T (stuck m o p)
      go zero p i l t = absurd (not-suc-le-zero l)
      go (suc n) p i l t = rw (stuck_is p i) (near_grows A (stuck m o) p i (λ q iq h. go n q iq (omega arith)) (r p i t))

  -- ---- as relations

  to_stuck : (n : ℕ) (p : Place) → Inside m.sizes p → to_end p < n → T (stuck m o p) → Stuck m o p
  to_stuck zero p i l t = absurd (not-suc-le-zero l)
  to_stuck (suc n) p i l t =
      let (w, r) = (marked_iff m o (stuck m o) p).0 (rw (stuck_is p i) at t) in
      record {
        working = w;
        blocked = λ a c.
            let (q, e, h) = (blocks_read m (stuck m o) p (ahead o a)).0 (r a c) in
            elim h [
              | inl x ↦ by_wall e x
              | inr x ↦
                  let s = to_stuck n q (next_in m.sizes p q i (ahead o a) e) (omega (arith, nearer m.sizes o p q a i e)) x in
                  by_mark e s.working s.blocked
            ];
      }

  from_blocks : {p : Place} {j : ℕ} → Inside m.sizes p → Blocks m o p j → T (blocks m (stuck m o) p j)
  from_blocks {p} {j} i (by_wall {q = q} e x) = (blocks_read m (stuck m o) p j).1 (q, e, inl x)
  from_blocks {p} {j} i (by_mark {q = q} e w f) =
      let iq = next_in m.sizes p q i j e in
      (blocks_read m (stuck m o) p j).1 (q, e, inr (rw (stuck_is q iq) ((marked_iff m o (stuck m o) q).1 (w, λ a c. from_blocks iq (f a c)))))

  -- the tests and the relations agree
  pub stuck_iff : (p : Place) → Inside m.sizes p → T (stuck m o p) ↔ Stuck m o p
  stuck_iff p i = (
    to_stuck (suc (to_end p)) p i (omega arith),
    λ s. rw (stuck_is p i) ((marked_iff m o (stuck m o) p).1 (s.working, λ a c. from_blocks i (s.blocked a c))),
  )

  pub blocks_iff : (p : Place) (j : ℕ) → Inside m.sizes p → T (blocks m (stuck m o) p j) ↔ Blocks m o p j
  blocks_iff p j i = (
    λ t.
        let (q, e, h) = (blocks_read m (stuck m o) p j).0 t in
        elim h [
          | inl x ↦ by_wall e x
          | inr x ↦ let s = (stuck_iff q (next_in m.sizes p q i j e)).0 x in by_mark e s.working s.blocked
        ],
    from_blocks i,
  )
