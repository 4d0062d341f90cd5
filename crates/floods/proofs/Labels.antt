-- One component after another gets its number: what is promised of the grid holds before the first, and is kept by the next. Assumes nothing.
use mathlib.Core.Path.{◌≡◌, refl, sym, ap, ◌∙◌}
use mathlib.Core.Logic.{◌⊎◌, inl, inr}
use mathlib.Core.List.{List}
use Prim.Native.Nat.{ℕ, suc, ◌+◌, ◌≤◌, ◌<◌}
use native.Mathlib.Omega.{arith}
use native.Mathlib.Nat.{eq-or-lt_of_le, le_of_suc-le-suc}
use lib.Dec.{eqb, ltb, ltb→lt, nltb→le}
use lib.ListN.{length, get_or, set}
use lib.Seq.{get_or-set_same, get_or-set_other}
use Rattle.mesh.specs.Tools.{bit, count}
use Rattle.mesh.specs.Mesh.{Axis}
use Rattle.mesh.proofs.Tests.{T-eq, bool_ext, tried}
use Rattle.grids.specs.Grid.{grid_size, unseen, Spot, Beside}
use Rattle.floods.specs.Flood.{Linked, here, onward, how_often, Flooded}
use Rattle.touching.specs.Components.{least_of, greatest_of}
use Rattle.floods.specs.Label.{Ranged, Spans, Recorded, Untouched, Labelled}
use Rattle.touching.specs.declared.Component.{Component}
use Rattle.grids.proofs.Around.{beside_sym}
use Rattle.touching.proofs.Counts.{sum_same, same_or_not}
use Rattle.floods.proofs.Steps.{last_or_below}
use Rattle.floods.proofs.Boxes.{Boxed}

module _ (g : List ℕ) (k n : ℕ) (h : List ℕ) (row : List Component) (L : Labelled g k n h row) where
  -- places that are not unseen are passed
  pub label_on : (m : ℕ) → k ≤ m → ((j : ℕ) → k ≤ j → j < m → get_or h j 0 ≡ unseen → ⊥) → Labelled g m n h row
  label_on m le none =
      record {
        size = L.size;
        kept = L.kept;
        passed = λ j l u. elim (tried (ltb j k)) [ inl t ↦ L.passed j (ltb→lt j k t) u | inr t ↦ none j (nltb→le j k t) l u ];
        closed = L.closed;
        linked = λ i l. let (a, la, e, f) = L.linked i l in (a, omega arith, e, f);
        rising = L.rising;
        recorded = L.recorded;
        no_more = L.no_more;
      }

  module _ (small : suc n < unseen) (un : Untouched g) where
    -- what is unseen now was unseen
    pub was_unseen : (j : ℕ) → get_or h j 0 ≡ unseen → get_or g j 0 ≡ unseen
    was_unseen j u = elim (L.kept j) [ inl e ↦ sym e ∙ u | inr e ↦ e.0 ]

    -- the next number is not in use
    pub next_fresh : (j : ℕ) → get_or h j 0 ≡ suc n → ⊥
    next_fresh j e = elim (L.kept j) [
      | inl w ↦ elim (un j) [ inl z ↦ omega arith | inr z ↦ omega (arith, z.0) ]
      | inr w ↦ omega (arith, w.2)
    ]

    pub unseen_spot : (j : ℕ) → get_or h j 0 ≡ unseen → Spot j
    unseen_spot j u = elim (un j) [ inl z ↦ absurd (omega (arith, was_unseen j u)) | inr z ↦ z.1 ]

    relinked : {a b : ℕ} → Linked h a b → Linked g a b
    relinked here = here
    relinked (onward {c = c} l b u) = onward (relinked l) b (was_unseen c u)

    module _ (h' q : List ℕ) (m : ℕ) (size' : length h' ≡ grid_size) (F : Flooded h k (suc n) h' q m) where
      -- the numbers up to n stand where they stood; the next stands where it was unseen
      stands : (j v : ℕ) → get_or h j 0 ≡ v → v ≤ n → get_or h' j 0 ≡ v
      stands j v e l = elim (F.part.kept j) [ inl w ↦ w ∙ e | inr w ↦ absurd (omega (arith, w.0)) ]

      stood : (j v : ℕ) → get_or h' j 0 ≡ v → v ≤ n → get_or h j 0 ≡ v
      stood j v e l = elim (F.part.kept j) [ inl w ↦ sym w ∙ e | inr w ↦ absurd (omega (arith, w.1)) ]

      new_there : (j : ℕ) → get_or h' j 0 ≡ suc n → get_or h j 0 ≡ unseen
      new_there j e = elim (F.part.kept j) [ inl w ↦ absurd (next_fresh j (sym w ∙ e)) | inr w ↦ w.0 ]

      unseen_then : (j : ℕ) → get_or h' j 0 ≡ unseen → get_or h j 0 ≡ unseen
      unseen_then j e = elim (F.part.kept j) [ inl w ↦ sym w ∙ e | inr w ↦ w.0 ]

      more_kept : (j : ℕ) → (get_or h' j 0 ≡ get_or g j 0) ⊎ ((get_or g j 0 ≡ unseen) × (1 ≤ get_or h' j 0) × (get_or h' j 0 ≤ suc n))
      more_kept j = elim (F.part.kept j) [
        | inl e ↦ elim (L.kept j) [ inl w ↦ inl (e ∙ w) | inr w ↦ inr (w.0, omega (arith, w.1), omega (arith, w.2)) ]
        | inr e ↦ inr (was_unseen j e.0, omega (arith, e.1), omega (arith, e.1))
      ]

      more_passed : (j : ℕ) → j < k + 1 → get_or h' j 0 ≡ unseen → ⊥
      more_passed j l u = elim (last_or_below j k l) [
        | inl e ↦ omega (arith, F.start, ap (λ (i : ℕ). get_or h' i 0) e)
        | inr w ↦ L.passed j w (unseen_then j u)
      ]

      more_closed : (i j : ℕ) → 1 ≤ get_or h' i 0 → get_or h' i 0 ≤ suc n → Beside i j → get_or g j 0 ≡ unseen → get_or h' j 0 ≡ get_or h' i 0
      more_closed i j lo hi b u = elim (eq-or-lt_of_le hi) [ inl e ↦ new e | inr l ↦ old l ]
        where
          old : get_or h' i 0 < suc n → get_or h' j 0 ≡ get_or h' i 0
          old l =
              let e : get_or h i 0 ≡ get_or h' i 0 = stood i (get_or h' i 0) refl (omega arith) in
              stands j (get_or h' i 0) (L.closed i j (omega arith) (omega arith) b u ∙ e) (omega arith)

          new : get_or h' i 0 ≡ suc n → get_or h' j 0 ≡ get_or h' i 0
          new e =
              let (t, l, f) = F.part.all i e in
              elim (F.part.kept j) [
                | inr w ↦ w.1 ∙ sym e
                | inl w ↦ elim (L.kept j) [
                  | inl v ↦ absurd (F.closed t j l (rw f b) (w ∙ v ∙ u))
                  | inr v ↦ absurd (omega (
                    arith,
                    v.1,
                    v.2,
                    new_there i e,
                    L.closed j i v.1 v.2 (beside_sym i j b)
                        (was_unseen i (new_there i e)),
                  ))
                ]
              ]

      more_linked : (i : ℕ) → i < suc n → (a : ℕ) × (a < k + 1) × (get_or h' a 0 ≡ suc i) × ((j : ℕ) → get_or h' j 0 ≡ suc i → Linked g a j)
      more_linked i l = elim (eq-or-lt_of_le (le_of_suc-le-suc l)) [
        | inl e ↦ (k, omega arith, F.start ∙ ap suc (sym e), λ j w. whole j (w ∙ ap suc e))
        | inr w ↦
            let (a, la, e, f) = L.linked i w in
            (a, omega arith, stands a (suc i) e (omega arith), λ j v. f j (stood j (suc i) v (omega arith)))
      ]
        where
          whole : (j : ℕ) → get_or h' j 0 ≡ suc n → Linked g k j
          whole j w = let (t, l, f) = F.part.all j w in relinked (rw f at (F.part.each t l).2)

      more_rising : (i l j : ℕ) → l < i → i < suc n → get_or h' j 0 ≡ suc i → (b : ℕ) × (b < j) × (get_or h' b 0 ≡ suc l)
      more_rising i l j lt li e = elim (eq-or-lt_of_le (le_of_suc-le-suc li)) [
        | inl w ↦
            let (a, la, f, _) = L.linked l (omega arith) in
            let above : k ≤ j = not_passed (new_there j (e ∙ ap suc w)) in
            (a, omega arith, stands a (suc l) f (omega arith))
        | inr w ↦ let (b, lb, f) = L.rising i l j lt w (stood j (suc i) e (omega arith)) in (b, lb, stands b (suc l) f (omega arith))
      ]
        where
          not_passed : get_or h j 0 ≡ unseen → k ≤ j
          not_passed u = elim (tried (ltb j k)) [ inl t ↦ absurd (L.passed j (ltb→lt j k t) u) | inr t ↦ nltb→le j k t ]

      -- the records so far are those of the same places
      same_often : (v : ℕ) → v ≤ n → how_often h v ≡ how_often h' v
      same_often v l =
          ap (λ (i : ℕ). count i (λ j. eqb (get_or h j 0) v)) (L.size ∙ sym size')
          ∙ sum_same (length h') (λ j. bit (eqb (get_or h j 0) v)) (λ j. bit (eqb (get_or h' j 0) v)) (λ j _. ap bit (both j))
        where
          both : (j : ℕ) → eqb (get_or h j 0) v ≡ eqb (get_or h' j 0) v
          both j = bool_ext (eqb (get_or h j 0) v) (eqb (get_or h' j 0) v)
              (λ t. (T-eq (get_or h' j 0) v).1 (stands j v ((T-eq (get_or h j 0) v).0 t) l))
              (λ t. (T-eq (get_or h j 0) v).1 (stood j v ((T-eq (get_or h' j 0) v).0 t) l))

      same_spans : (v : ℕ) → v ≤ n → (a : Axis) (lo hi : ℕ) → Spans h v a lo hi → Spans h' v a lo hi
      same_spans v l a lo hi s =
          record {
            within = λ j e. s.within j (stood j v e l);
            at_lo = let (j, e, f) = s.at_lo in (j, stands j v e l, f);
            at_hi = let (j, e, f) = s.at_hi in (j, stands j v e l, f);
          }

      -- the new record is that of the queue's places
      new_spans : (a : Axis) (lo hi : ℕ) → Ranged q m a lo hi → Spans h' (suc n) a lo hi
      new_spans a lo hi r =
          record {
            within = λ j e. let (t, l, f) = F.part.all j e in rw f at (r.within t l);
            at_lo = let (t, l, f) = r.at_lo in (get_or q t 0, (F.part.each t l).1, f);
            at_hi = let (t, l, f) = r.at_hi in (get_or q t 0, (F.part.each t l).1, f);
          }

      module _ (c : Component) (e : c.count ≡ m) (b : Boxed q m c) (r : n < length row) where
        more_recorded : (i : ℕ) (d : Component) → i < suc n → Recorded h' (suc i) (get_or (set row n c) i d)
        more_recorded i d l = elim (same_or_not i n) [
          | inl w ↦ rw (w, get_or-set_same row n c d r)
              (record { members = e ∙ sym F.counted; spans = λ a. new_spans a (least_of c a) (greatest_of c a) (b a) })
          | inr w ↦ rw (get_or-set_other row n i c d w) (old (lower w) (L.recorded i d (lower w)))
        ]
          where
            lower : (i ≡ n → ⊥) → i < n
            lower w = elim (eq-or-lt_of_le (le_of_suc-le-suc l)) [ inl f ↦ absurd (w f) | inr f ↦ f ]

            old : i < n → Recorded h (suc i) (get_or row i d) → Recorded h' (suc i) (get_or row i d)
            old li R =
                record {
                  members = R.members ∙ same_often (suc i) (omega arith);
                  spans = λ a. same_spans (suc i) (omega arith) a (least_of (get_or row i d) a) (greatest_of (get_or row i d) a) (R.spans a);
                }

        pub label_more : Labelled g (k + 1) (suc n) h' (set row n c)
        label_more =
            record {
              size = size';
              kept = more_kept;
              passed = more_passed;
              closed = more_closed;
              linked = more_linked;
              rising = more_rising;
              recorded = more_recorded;
              no_more = λ i d l. get_or-set_other row n i c d (λ w. absurd (omega arith)) ∙ L.no_more i d (omega arith);
            }
