-- What is promised of the grid, the count and the records has one outcome. Assumes nothing.
use mathlib.Core.Path.{◌≡◌, refl, sym, ◌∙◌, subst}
use mathlib.Core.Logic.{inl, inr}
use mathlib.Core.List.{List}
use Prim.Native.Nat.{ℕ, zero, suc, ◌<◌, ◌≤◌}
use native.Mathlib.Omega.{arith}
use lib.Dec.{ltb, ltb→lt, nltb→le}
use lib.ListN.{length, get_or}
use lib.Seq.{ext_get_or}
use Rattle.mesh.specs.Mesh.{X, Y, Z, place}
use Rattle.mesh.proofs.Tests.{tried}
use Rattle.grids.specs.Grid.{grid_size, unseen}
use Rattle.touching.proofs.Records.{bounds_only}
use Rattle.touching.specs.declared.Component.{Component}
use Rattle.floods.specs.Flood.{Linked, here, onward}
use Rattle.floods.specs.Label.{alone, Recorded, Untouched, Labelled}

module _ (g : List ℕ) (un : Untouched g) where
  -- an outcome, and that of an unsafe place: it has a number
  pub record Outcome (n : ℕ) (h : List ℕ) (row : List Component) : Type 0 where
    pub labelled : Labelled g grid_size n h row
    pub room : length row ≡ 1024
    pub few : n ≤ 1024

  module _ {n : ℕ} {h : List ℕ} {row : List Component} (A : Outcome n h row) where
    numbered : (j : ℕ) → get_or g j 0 ≡ unseen → (1 ≤ get_or h j 0) × (get_or h j 0 ≤ n)
    numbered j u = elim (A.labelled.kept j) [
      | inr w ↦ (w.1, w.2)
      | inl w ↦ elim (un j) [
        | inl z ↦ absurd (omega arith)
        | inr z ↦ absurd (A.labelled.passed j (omega (arith, z.1.z_in)) (w ∙ u))
      ]
    ]

    -- a place with a number is an unsafe one, and any other is empty
    was_unsafe : (j : ℕ) → 1 ≤ get_or h j 0 → get_or h j 0 ≤ n → get_or g j 0 ≡ unseen
    was_unsafe j lo hi = elim (A.labelled.kept j) [
      | inr w ↦ w.0
      | inl w ↦ elim (un j) [ inl z ↦ absurd (omega arith) | inr z ↦ z.0 ]
    ]

    empty : (j : ℕ) → get_or g j 0 ≡ 0 → get_or h j 0 ≡ 0
    empty j z = elim (A.labelled.kept j) [ inl w ↦ w ∙ z | inr w ↦ absurd (omega (arith, w.0)) ]

    -- linked places have one number
    end_unsafe : {a j : ℕ} → Linked g a j → get_or g a 0 ≡ unseen → get_or g j 0 ≡ unseen
    end_unsafe here u = u
    end_unsafe (onward l b v) u = v

    linked_same : {a j : ℕ} → Linked g a j → get_or g a 0 ≡ unseen → get_or h a 0 ≡ get_or h j 0
    linked_same here u = refl
    linked_same (onward {b} {c} l w v) u =
        let (lo, hi) = numbered b (end_unsafe l u) in
        linked_same l u ∙ sym (A.labelled.closed b c lo hi w v)

  module _ {n : ℕ} {h : List ℕ} {row : List Component} (A : Outcome n h row)
      {n' : ℕ} {h' : List ℕ} {row' : List Component} (B : Outcome n' h' row') where
    -- what has one number in A has one in B
    same_in : (i x y : ℕ) → i < n → get_or h x 0 ≡ suc i → get_or h y 0 ≡ suc i → get_or h' x 0 ≡ get_or h' y 0
    same_in i x y l ex ey =
        let (a, _, e, all) = A.labelled.linked i l in
        let u = was_unsafe A a (omega arith) (omega arith) in
        sym (linked_same B (all x ex) u) ∙ linked_same B (all y ey) u

    -- so no place has a lower number in A, if those before it agree: B has that number before it
    not_lower : (j : ℕ) → get_or g j 0 ≡ unseen → ((c : ℕ) → c < j → get_or g c 0 ≡ unseen → get_or h c 0 ≡ get_or h' c 0) → get_or h j 0 < get_or h' j 0 → ⊥
    not_lower j u before l = by (get_or h j 0) (get_or h' j 0) refl refl
      where
        by : (v v' : ℕ) → get_or h j 0 ≡ v → get_or h' j 0 ≡ v' → ⊥
        by zero v' e e' = omega (arith, numbered A j u)
        by (suc i) zero e e' = omega arith
        by (suc i) (suc i') e e' =
            let (c, lc, f) = B.labelled.rising i' i j (omega arith) (omega (arith, numbered B j u)) e' in
            let w = before c lc (was_unsafe B c (omega arith) (omega (arith, numbered B j u))) in
            let s : get_or h' c 0 ≡ get_or h' j 0 = same_in i c j (omega (arith, numbered A j u)) (w ∙ f) e in
            omega arith

    -- a number that is used in A is used in B
    as_many : ((j : ℕ) → get_or h j 0 ≡ get_or h' j 0) → n ≤ n'
    as_many same = elim (tried (ltb n' n)) [
      | inr t ↦ nltb→le n' n t
      | inl t ↦
          let (a, _, e, _) = A.labelled.linked n' (ltb→lt n' n t) in
          let u = was_unsafe A a (omega arith) (omega (arith, ltb→lt n' n t)) in
          absurd (omega (arith, same a, numbered B a u))
    ]

  module _ {n : ℕ} {h : List ℕ} {row : List Component} (A : Outcome n h row)
      {n' : ℕ} {h' : List ℕ} {row' : List Component} (B : Outcome n' h' row') where
    -- every place has the number in A that it has in B: an unsafe one after those before it
    next : (j : ℕ) → get_or g j 0 ≡ unseen → ((c : ℕ) → c < j → get_or g c 0 ≡ unseen → get_or h c 0 ≡ get_or h' c 0) → get_or h j 0 ≡ get_or h' j 0
    next j u before = elim (tried (ltb (get_or h j 0) (get_or h' j 0))) [
      | inl t ↦ absurd (not_lower A B j u before (ltb→lt (get_or h j 0) (get_or h' j 0) t))
      | inr t ↦ elim (tried (ltb (get_or h' j 0) (get_or h j 0))) [
        | inl s ↦ absurd (not_lower B A j u (λ c k v. sym (before c k v)) (ltb→lt (get_or h' j 0) (get_or h j 0) s))
        | inr s ↦ omega (arith, nltb→le (get_or h j 0) (get_or h' j 0) t, nltb→le (get_or h' j 0) (get_or h j 0) s)
      ]
    ]

    unsafe_same : (b j : ℕ) → j < b → get_or g j 0 ≡ unseen → get_or h j 0 ≡ get_or h' j 0
    unsafe_same zero j l u = absurd (omega arith)
    unsafe_same (suc b) j l u = next j u λ c k v. unsafe_same b c (omega arith) v

    all_same : (j : ℕ) → get_or h j 0 ≡ get_or h' j 0
    all_same j = elim (un j) [ inl z ↦ empty A j z ∙ sym (empty B j z) | inr z ↦ unsafe_same (suc j) j (omega arith) z.0 ]

    grid_once : h ≡ h'
    grid_once = ext_get_or 0 h h' (A.labelled.size ∙ sym B.labelled.size) λ j _. all_same j

    count_once : n ≡ n'
    count_once = omega (arith, as_many A B all_same, as_many B A (λ j. sym (all_same j)))

    record_once : {v : ℕ} {c d : Component} → Recorded h v c → Recorded h v d → c ≡ d
    record_once r s =
        let (x0, x1) = bounds_only (r.spans X) (s.spans X) in
        let (y0, y1) = bounds_only (r.spans Y) (s.spans Y) in
        let (z0, z1) = bounds_only (r.spans Z) (s.spans Z) in
        let m = r.members ∙ sym s.members in
        λ j. record { count = m j; x0 = x0 j; y0 = y0 j; z0 = z0 j; x1 = x1 j; y1 = y1 j; z1 = z1 j }

    row_once : row ≡ row'
    row_once = ext_get_or none row row' (A.room ∙ sym B.room) λ i _. elim (tried (ltb i n)) [
      | inl t ↦
          let l = ltb→lt i n t in
          record_once (A.labelled.recorded i none l)
          (subst (λ (k : List ℕ). Recorded k (suc i) (get_or row' i none)) (sym grid_once) (B.labelled.recorded i none (omega (arith, count_once))))
      | inr t ↦
          let l = nltb→le i n t in
          A.labelled.no_more i none l ∙ sym (B.labelled.no_more i none (omega (arith, count_once)))
    ]
      where
        none : Component
        none = alone (place 0 0 0) 0

    pub label_once : (h ≡ h') × (n ≡ n') × (row ≡ row')
    label_once = (grid_once, count_once, row_once)
