-- Laws of answers: the first refusal stands and keeps what is lent, a check that is granted says what it tested, and the first bad cell
-- is the first. Assumes nothing.
use mathlib.Core.Path.{◌≡◌, refl, ap}
use mathlib.Core.Bool.{Bool, true, false, cond}
use mathlib.Core.List.{List, [], ◌∷◌}
use Prim.Native.Nat.{ℕ, zero, suc, ◌<◌, ◌≤◌}
use native.Mathlib.Nat.{le_of_suc-le-suc}
use native.Mathlib.Omega.{arith}
use borrow.Author.Tests.{ltb-true, ltb-false, leb-true, eqb-true}
use lib.ListN.{length, get_or}
use lib.Dec.{T, ltb, leb, eqb}
use Rattle.mesh.specs.Tools.{any}
use Rattle.mesh.specs.Mesh.{in_range, InRange, nodes, inside, Inside}
use Rattle.mesh.specs.Cells.{bad_cell, first_bad}
use Rattle.mesh.specs.Answers.{granted, ◌and_then◌, unless, accepted, Answer, check_sizes, check_cells, check_map, check_place, check_node, check_orientation, check_room}
use Rattle.mesh.specs.declared.Sizes.{Sizes}
use Rattle.mesh.specs.declared.Place.{Place}
use Rattle.mesh.specs.declared.Refusal.{Refusal}
use Rattle.mesh.specs.declared.Refusal.TheVariants.{BadSizes, BadLength, NoRoom, BadCell, BadNumber}
use Rattle.mesh.proofs.Tests.{T-and, T-any, T-le, T-lt, bool_ext, holds_true}
use Rattle.std.specs.Prelude.{Ok, Err}

-- ---- the first refusal stands

-- What `?` passes on leaves the equation a ≡ Err r.
pub stands : (a b : Answer) (r : Refusal) → a ≡ Err r → a and_then b ≡ Err r
stands a b r e = rw e

-- "No lent byte changes."
pub kept : {A : Type 0} (a : Answer) (r : Refusal) (new old : List A) → a ≡ Err r → granted a new old ≡ old
kept a r new old e = rw e

pub refused : (a : Answer) → (a ≡ accepted → ⊥) → (r : Refusal) × (a ≡ Err r)
refused (Ok _) n = absurd (n refl)
refused (Err r) n = (r, refl)

-- all is granted only if each is
pub split : (a b : Answer) → a and_then b ≡ accepted → (a ≡ accepted) × (b ≡ accepted)
split (Ok _) b e = (refl, e)
split (Err r) b e = let z : ◌≡◌ {A = ℕ} 0 1 = cc in absurd (omega arith)

pub ok_of : (t : Bool) (r : Refusal) → unless t r ≡ accepted → t ≡ true
ok_of true r e = refl
ok_of false r e = let z : ◌≡◌ {A = ℕ} 0 1 = cc in absurd (omega arith)

-- ---- tests and the statements that they decide

pub sizes_of : (S : Sizes) → in_range S ≡ true → InRange S
unfolding in_range
sizes_of S e =
    let t = (holds_true (in_range S)).1 e in
    let q : (((2 ≤ S.w) × (S.w ≤ 16)) × ((2 ≤ S.h) × (S.h ≤ 16))) × ((1 ≤ S.d) × (S.d ≤ 16)) = simp (T-and, T-le) at t in
    record { w_lo = q.0.0.0; w_hi = q.0.0.1; h_lo = q.0.1.0; h_hi = q.0.1.1; d_lo = q.1.0; d_hi = q.1.1 }

pub sizes_is : (S : Sizes) → InRange S → in_range S ≡ true
unfolding in_range
sizes_is S r = (holds_true (in_range S)).0 (simp (T-and, T-le) (((r.w_lo, r.w_hi), (r.h_lo, r.h_hi)), (r.d_lo, r.d_hi)))

pub inside_of : (S : Sizes) (p : Place) → inside S p ≡ true → Inside S p
unfolding inside
inside_of S p e =
    let q : ((p.x < S.w) × (p.y < S.h)) × (p.z < S.d) = simp (T-and, T-lt) at ((holds_true (inside S p)).1 e) in
    record { x_in = q.0.0; y_in = q.0.1; z_in = q.1 }

pub inside_is : (S : Sizes) (p : Place) → Inside S p → inside S p ≡ true
unfolding inside
inside_is S p i = (holds_true (inside S p)).0 (simp (T-and, T-lt) ((i.x_in, i.y_in), i.z_in))

-- ---- what a check grants

pub sizes_granted : (S : Sizes) → check_sizes S ≡ accepted → InRange S
sizes_granted S e = sizes_of S (ok_of (in_range S) BadSizes e)

pub place_granted : (S : Sizes) (p : Place) → check_place S p ≡ accepted → Inside S p
place_granted S p e = inside_of S p (ok_of (inside S p) BadNumber e)

pub node_granted : (S : Sizes) (k : ℕ) → check_node S k ≡ accepted → k < nodes S
node_granted S k e = ltb-true k (nodes S) (ok_of (ltb k (nodes S)) BadNumber e)

pub orientation_granted : (o : ℕ) → check_orientation o ≡ accepted → o ≤ 7
orientation_granted o e = leb-true o 7 (ok_of (leb o 7) BadNumber e)

pub room_granted : (need room : ℕ) → check_room need room ≡ accepted → need ≤ room
room_granted need room e = leb-true need room (ok_of (leb need room) NoRoom e)

-- ---- the first bad cell: there is none below it, and it is bad

-- no cell below i is bad; and cell k, if there is one, is
abbrev pub NoneBelow : (ℕ → ℕ → Bool) → List ℕ → ℕ → Type 0
NoneBelow bad l i = (k : ℕ) → k < i → bad k (get_or l k 0) ≡ false

abbrev pub IsBad : (ℕ → ℕ → Bool) → List ℕ → ℕ → Type 0
IsBad bad l k = k < length l → bad k (get_or l k 0) ≡ true

pub first_below : (bad : ℕ → ℕ → Bool) (l : List ℕ) → NoneBelow bad l (first_bad bad l)
unfolding first_bad
first_below bad [] k h = absurd (omega arith)
first_below bad (c ∷ cs) k h = go (bad 0 c) refl _ (first_below (λ k. bad (suc k)) cs) k h
  where
    go : (t : Bool) → bad 0 c ≡ t → (n : ℕ) → NoneBelow (λ k. bad (suc k)) cs n → NoneBelow bad (c ∷ cs) (cond t 0 (suc n))
    go true e n rest k h = absurd (omega arith)
    go false e n rest zero h = e
    go false e n rest (suc k) h = rest k (le_of_suc-le-suc h)

pub first_at : (bad : ℕ → ℕ → Bool) (l : List ℕ) → IsBad bad l (first_bad bad l)
unfolding first_bad
first_at bad [] h = absurd (omega arith)
first_at bad (c ∷ cs) h = go (bad 0 c) refl _ (first_at (λ k. bad (suc k)) cs) h
  where
    go : (t : Bool) → bad 0 c ≡ t → (n : ℕ) → IsBad (λ k. bad (suc k)) cs n → IsBad bad (c ∷ cs) (cond t 0 (suc n))
    go true e n rest h = e
    go false e n rest h = rest (le_of_suc-le-suc h)

pub first_le : (bad : ℕ → ℕ → Bool) (l : List ℕ) → first_bad bad l ≤ length l
unfolding first_bad
first_le bad [] = omega arith
first_le bad (c ∷ cs) = go (bad 0 c) (first_le (λ k. bad (suc k)) cs)
  where
    go : (t : Bool) {n : ℕ} → n ≤ length cs → cond t 0 (suc n) ≤ suc (length cs)
    go true h = omega arith
    go false h = omega arith

-- and no other number is so
pub first_is : (bad : ℕ → ℕ → Bool) (l : List ℕ) (i : ℕ) → i ≤ length l → NoneBelow bad l i → IsBad bad l i → first_bad bad l ≡ i
unfolding first_bad
first_is bad [] i h below here = omega arith
first_is bad (c ∷ cs) zero h below here = rw (here (omega arith))
first_is bad (c ∷ cs) (suc i) h below here =
    let rest = first_is (λ k. bad (suc k)) cs i (le_of_suc-le-suc h) (λ k l. below (suc k) (omega arith)) (λ l. here (omega arith)) in
    rw (below 0 (omega arith)) (ap suc rest)

-- whether there is a bad cell
pub any_first : (bad : ℕ → ℕ → Bool) (l : List ℕ) → any (length l) (λ k. bad k (get_or l k 0)) ≡ ltb (first_bad bad l) (length l)
any_first bad l = bool_ext (any (length l) (λ k. bad k (get_or l k 0))) (ltb (first_bad bad l) (length l))
    (λ t.
    let (k, h, b) = (T-any (length l) (λ k. bad k (get_or l k 0))).0 t in
    split k h b (ltb k (first_bad bad l)) refl)
    (λ t.
    let h = (T-lt (first_bad bad l) (length l)).0 t in
    (T-any (length l) (λ k. bad k (get_or l k 0))).1 (first_bad bad l, h, rw (first_at bad l h) tt))
  where
    split : (k : ℕ) → k < length l → T (bad k (get_or l k 0)) → (b : Bool) → ltb k (first_bad bad l) ≡ b → T (ltb (first_bad bad l) (length l))
    split k h t true e = absurd (rw (first_below bad l k (ltb-true k (first_bad bad l) e)) at t)
    split k h t false e = (T-lt (first_bad bad l) (length l)).1 (omega (arith, ltb-false k (first_bad bad l) e))

-- ---- the check of a map

-- a map that is in order
pub record Checked (S : Sizes) (cells : List ℕ) : Type 0 where
  pub sized : InRange S
  pub whole : length cells ≡ nodes S
  pub good : NoneBelow (bad_cell S) cells (length cells)

module _ (S : Sizes) (cells : List ℕ) where
  pub map_1 : in_range S ≡ false → Err BadSizes ≡ check_map S cells
  unfolding check_map
  map_1 e = rw e

  pub map_2 : in_range S ≡ true → eqb (length cells) (nodes S) ≡ false → Err BadLength ≡ check_map S cells
  unfolding check_map
  map_2 e e2 = rw (e, e2)

  pub map_4 : in_range S ≡ true → eqb (length cells) (nodes S) ≡ true → ltb (first_bad (bad_cell S) cells) (length cells) ≡ true
      → Err (BadCell (first_bad (bad_cell S) cells)) ≡ check_map S cells
  unfolding check_map
  map_4 e e2 e4 = rw (e, e2, e4)

  pub map_0 : in_range S ≡ true → eqb (length cells) (nodes S) ≡ true → ltb (first_bad (bad_cell S) cells) (length cells) ≡ false
      → accepted ≡ check_map S cells
  unfolding check_map
  map_0 e e2 e4 = rw (e, e2, e4)

  -- granted only if the map is in order
  pub map_granted : check_map S cells ≡ accepted → Checked S cells
  unfolding check_map
  map_granted e =
      let same = eqb (length cells) (nodes S) in
      let (q, r) = split (check_sizes S and_then unless same BadLength) (check_cells S cells) e in
      let (s, t) = split (check_sizes S) (unless same BadLength) q in
      record {
        sized = sizes_granted S s;
        whole = eqb-true (length cells) (nodes S) (ok_of same BadLength t);
        good = λ k h. first_below (bad_cell S) cells k (omega (arith, ltb-false (first_bad (bad_cell S) cells) (length cells) (none _ _ r)));
      }
    where
      none : (t : Bool) (k : ℕ) → cond t (Err (BadCell k)) accepted ≡ accepted → t ≡ false
      none true k e = let z : ◌≡◌ {A = ℕ} 0 1 = cc in absurd (omega arith)
      none false k e = refl
