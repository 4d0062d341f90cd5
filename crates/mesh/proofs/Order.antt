-- Laws of checks in their order: what a chain of checks decides, which number it gives, and the bad cell that its answer names. Assumes nothing.
use mathlib.Core.Path.{◌≡◌, refl, sym, ◌∙◌, subst}
use mathlib.Core.Logic.{◌↔◌, ◌≢◌, ◌⊎◌, inl, inr}
use mathlib.Core.Bool.{Bool, true, false, not, cond, ◌&&◌, ◌||◌}
use mathlib.Core.List.{List, [], ◌∷◌, ◌++◌}
use Prim.Native.Nat.{ℕ, suc, ◌≤◌, ◌<◌}
use native.Mathlib.Nat.{lt_of_not-le}
use native.Mathlib.Decide.{ℕ_discrete}
use native.Mathlib.Omega.{arith}
use borrow.Author.Tests.{ltb-true, ltb-false}
use lib.Dec.{T, eqb, leb, ltb}
use lib.ListN.{length, get_or}
use Rattle.mesh.specs.Mesh.{in_range, InRange, nodes}
use Rattle.mesh.specs.Cells.{bad_cell, first_bad}
use Rattle.mesh.specs.Answers.{refusal_no, refusal_bad, answer_no, answer_bad, answer_value, answered, numbered_value, ◌and_then◌, unless, check_sizes, check_cells, check_map, check_node, check_orientation, check_room, accepted, Answer}
use Rattle.mesh.specs.Order.{Check, ◌else◌, ◌give◌, AllPass, NoneBad, FirstBad, map_checks, NamesBad}
use Rattle.mesh.specs.declared.Sizes.{Sizes}
use Rattle.mesh.specs.declared.Refusal.{Refusal}
use Rattle.mesh.specs.declared.Refusal.TheVariants.{BadSizes, BadLength, NoRoom, BadCell, BadNumber, Unsound, NoPair, NotHeld, FaultyEnd, NoPath, BadFile}
use Rattle.mesh.proofs.Tests.{T-and, T-no, T-eq, T-le, T-lt, holds_true}
use Rattle.mesh.proofs.Answers.{sizes_of, sizes_is, first_at, first_below, first_is}
use Rattle.std.specs.Prelude.{Ok, Err}

-- ---- numbers that checks give

-- any two are one
pub one_number : (cs : List Check) (n m : ℕ) → cs give n → cs give m → n ≡ m
one_number [] n m a b = a ∙ sym b
one_number (c ∷ cs) n m (inl a) (inl b) = a.1 ∙ sym b.1
one_number (c ∷ cs) n m (inl a) (inr b) = absurd (a.0 b.0)
one_number (c ∷ cs) n m (inr a) (inl b) = absurd (b.0 a.0)
one_number (c ∷ cs) n m (inr a) (inr b) = one_number cs n m a.1 b.1

-- it is one of those listed, or 0
abbrev pub listed : List Check → ℕ → Bool
listed [] n = eqb n 0
listed (c ∷ cs) n = eqb n c.number || listed cs n

pub is_listed : (cs : List Check) (n : ℕ) → cs give n → T (listed cs n)
is_listed [] n a = (T-eq n 0).1 a
is_listed (c ∷ cs) n (inl a) = go (eqb n c.number) ((T-eq n c.number).1 a.1)
  where
    go : (b : Bool) → T b → T (b || listed cs n)
    go true t = tt
    go false t = absurd t
is_listed (c ∷ cs) n (inr a) = go (eqb n c.number) (is_listed cs n a.1)
  where
    go : (b : Bool) → T (listed cs n) → T (b || listed cs n)
    go true t = tt
    go false t = t

-- none of the checks has the number n
abbrev pub unused : ℕ → List Check → Bool
unused n [] = true
unused n (c ∷ cs) = not (eqb n c.number) && unused n cs

other : (n : ℕ) (c : Check) (cs : List Check) → T (unused n (c ∷ cs)) → (n ≢ c.number) × T (unused n cs)
other n c cs t =
    let (a, b) = (T-and (not (eqb n c.number)) (unused n cs)).0 t in
    (λ e. (T-no (eqb n c.number)).0 a ((T-eq n c.number).1 e), b)

-- 0 exactly if all pass
pub passes : (cs : List Check) (n : ℕ) → T (unused 0 cs) → cs give n → (n ≡ 0) ↔ AllPass cs
passes [] n t a = (λ e. tt, λ _. a)
passes (c ∷ cs) n t (inl a) = (λ e. absurd ((other 0 c cs t).0 (sym e ∙ a.1)), λ p. absurd (a.0 p.0))
passes (c ∷ cs) n t (inr a) =
    let (f, g) = passes cs n (other 0 c cs t).1 a.1 in
    (λ e. (a.0, f e), λ p. g p.1)

-- a number that no check gives
pub not_given : (cs : List Check) (n k : ℕ) → T (unused k cs) → k ≢ 0 → cs give n → n ≢ k
not_given [] n k t z a e = z (sym e ∙ a)
not_given (c ∷ cs) n k t z (inl a) e = (other k c cs t).0 (sym e ∙ a.1)
not_given (c ∷ cs) n k t z (inr a) e = not_given cs n k (other k c cs t).1 z a.1 e

-- a number that one check alone has is given exactly if all before it pass and it fails
pub fails_at : (before : List Check) (c : Check) (after : List Check) (n : ℕ) → T (unused c.number before) → T (unused c.number after)
    → c.number ≢ 0 → before ++ c ∷ after give n → (n ≡ c.number) ↔ (AllPass before × (c.must → ⊥))
fails_at [] c after n t u z (inl a) = (λ e. (tt, a.0), λ p. a.1)
fails_at [] c after n t u z (inr a) = (λ e. absurd (not_given after n c.number u z a.1 e), λ p. absurd (p.1 a.0))
fails_at (b ∷ before) c after n t u z (inl a) = (λ e. absurd ((other c.number b before t).0 (sym e ∙ a.1)), λ p. absurd (a.0 p.0.0))
fails_at (b ∷ before) c after n t u z (inr a) =
    let (f, g) = fails_at before c after n (other c.number b before t).1 u z a.1 in
    (λ e. let (p, q) = f e in ((a.0, p), q), λ p. g (p.0.1, p.1))

-- all pass: those before, and the last
pub last_passes : (cs : List Check) (c : Check) → AllPass (cs ++ c ∷ []) ↔ (AllPass cs × c.must)
last_passes [] c = (λ w. (tt, w.0), λ w. (w.1, tt))
last_passes (b ∷ cs) c =
    let (f, g) = last_passes cs c in
    (λ w. let (a, p) = f w.1 in ((w.0, a), p), λ w. (w.0.0, g (w.0.1, w.1)))

-- ---- answers that checks decide: done where all pass, else refused by the number of the first that fails

infix 4 ◌decide◌
abbrev pub ◌decide◌ : List Check → Answer → Type 0
[] decide a = a ≡ accepted
(c ∷ cs) decide a = ((c.must → ⊥) × ((r : Refusal) × (a ≡ Err r) × (refusal_no r ≡ c.number))) ⊎ (c.must × (cs decide a))

pub gives : (cs : List Check) (a : Answer) → cs decide a → cs give answer_no a
gives [] a d = rw d
gives (c ∷ cs) a (inl d) = let (r, e, n) = d.1 in inl (d.0, rw e n)
gives (c ∷ cs) a (inr d) = inr (d.0, gives cs a d.1)

-- done exactly if all pass
pub all_pass : (cs : List Check) (a : Answer) → cs decide a → (a ≡ accepted) ↔ AllPass cs
all_pass [] a d = (λ e. tt, λ p. d)
all_pass (c ∷ cs) a (inl d) =
    let (r, f, n) = d.1 in
    (λ e. let z : ◌≡◌ {A = ℕ} 0 1 = cc in absurd (omega arith), λ p. absurd (d.0 p.0))
all_pass (c ∷ cs) a (inr d) = let (f, g) = all_pass cs a d.1 in (λ e. (d.0, f e), λ p. g p.1)

-- one after another: the second may rest on what has passed
pub decides_after : (cs ds : List Check) (a b : Answer) → cs decide a → (AllPass cs → ds decide b) → cs ++ ds decide (a and_then b)
decides_after [] ds a b d e = rw d (e tt)
decides_after (c ∷ cs) ds a b (inl d) e = let (r, f, n) = d.1 in inl (d.0, (r, rw f, n))
decides_after (c ∷ cs) ds a b (inr d) e = inr (d.0, decides_after cs ds a b d.1 (λ p. e (d.0, p)))

pub decides_then : (cs ds : List Check) (a b : Answer) → cs decide a → ds decide b → cs ++ ds decide (a and_then b)
decides_then cs ds a b d e = decides_after cs ds a b d (λ _. e)

-- one test, which says that P holds
pub decides_by : (t : Bool) (r : Refusal) {P : Type 0} → T t ↔ P → P else refusal_no r ∷ [] decide unless t r
decides_by true r q = inr (q.0 tt, refl)
decides_by false r q = inl (λ p. q.1 p, (r, refl, refl))

-- two tests of one number, which are one check of both; and the same after others
pub decides_two : (t u : Bool) (r : Refusal) {P Q : Type 0} → T t ↔ P → T u ↔ Q → (P × Q) else refusal_no r ∷ [] decide (unless t r and_then unless u r)
decides_two true true r p q = inr ((p.0 tt, q.0 tt), refl)
decides_two true false r p q = inl (λ w. q.1 w.1, (r, refl, refl))
decides_two false u r p q = inl (λ w. p.1 w.0, (r, refl, refl))

pub decides_both : (cs : List Check) (a : Answer) (t u : Bool) (r : Refusal) {P Q : Type 0} → cs decide a → T t ↔ P → T u ↔ Q
    → cs ++ (P × Q) else refusal_no r ∷ [] decide (a and_then unless t r and_then unless u r)
decides_both cs a t u r {P} {Q} d p q = rw (grouped a) (decides_then cs ((P × Q) else refusal_no r ∷ []) a (unless t r and_then unless u r) d (decides_two t u r p q))
  where
    grouped : (a : Answer) → a and_then unless t r and_then unless u r ≡ a and_then (unless t r and_then unless u r)
    grouped (Ok _) = refl
    grouped (Err r) = refl

pub sizes_decided : (S : Sizes) → InRange S else 1 ∷ [] decide check_sizes S
sizes_decided S = decides_by (in_range S) BadSizes (λ t. sizes_of S ((holds_true (in_range S)).0 t), λ r. (holds_true (in_range S)).1 (sizes_is S r))

pub node_decided : (S : Sizes) (k : ℕ) → (k < nodes S) else 5 ∷ [] decide check_node S k
node_decided S k = decides_by (ltb k (nodes S)) BadNumber (T-lt k (nodes S))

pub orientation_decided : (o : ℕ) → (o ≤ 7) else 5 ∷ [] decide check_orientation o
orientation_decided o = decides_by (leb o 7) BadNumber (T-le o 7)

pub room_decided : (need room : ℕ) → (need ≤ room) else 3 ∷ [] decide check_room need room
room_decided need room = decides_by (leb need room) NoRoom (T-le need room)

-- no refusal but 4 names a cell
pub no_cell : (r : Refusal) → refusal_no r ≢ 4 → refusal_bad r ≡ 0
no_cell BadSizes n = refl
no_cell BadLength n = refl
no_cell NoRoom n = refl
no_cell (BadCell k) n = absurd (n refl)
no_cell BadNumber n = refl
no_cell Unsound n = refl
no_cell NoPair n = refl
no_cell NotHeld n = refl
no_cell FaultyEnd n = refl
no_cell NoPath n = refl
no_cell BadFile n = refl

-- the cells, and the first bad one
fails_false : (t : Bool) → T (not t) ↔ (t ≡ false)
fails_false true = (λ h. absurd h, λ e. subst T e tt)
fails_false false = (λ h. refl, λ e. tt)

module _ (S : Sizes) (cells : List ℕ) where
  abbrev first : ℕ
  first = first_bad (bad_cell S) cells

  first_is_bad : first < length cells → FirstBad S cells first
  first_is_bad h = record {
    there = h;
    bad = (holds_true (bad_cell S first (get_or cells first 0))).1 (first_at (bad_cell S) cells h);
    none_before = λ i l. (fails_false (bad_cell S i (get_or cells i 0))).1 (first_below (bad_cell S) cells i l);
  }

  none_bad : (length cells ≤ first) ↔ NoneBad S cells
  none_bad = (
    λ h k l. (fails_false (bad_cell S k (get_or cells k 0))).1 (first_below (bad_cell S) cells k (omega arith)),
    λ g.
        let e = first_is (bad_cell S) cells (length cells) (omega arith) (λ k l. (fails_false (bad_cell S k (get_or cells k 0))).0 (g k l)) (λ h. absurd (omega arith)) in
        omega arith,
  )

  pub cells_decided : NoneBad S cells else 4 ∷ [] decide check_cells S cells
  cells_decided = go (ltb first (length cells)) refl
    where
      go : (t : Bool) → ltb first (length cells) ≡ t → NoneBad S cells else 4 ∷ [] decide cond t (Err (BadCell first)) accepted
      go true e = inl (λ g. let h = ltb-true first (length cells) e in let l = none_bad.1 g in omega arith, (BadCell first, refl, refl))
      go false e = inr (none_bad.0 (ltb-false first (length cells) e), refl)

  pub map_decided : map_checks S cells decide check_map S cells
  unfolding check_map
  map_decided =
      let same = eqb (length cells) (nodes S) in
      decides_then (InRange S else 1 ∷ (length cells ≡ nodes S) else 2 ∷ []) (NoneBad S cells else 4 ∷ []) (check_sizes S and_then unless same BadLength) (check_cells S cells)
      (decides_then (InRange S else 1 ∷ []) ((length cells ≡ nodes S) else 2 ∷ []) (check_sizes S) (unless same BadLength)
      (sizes_decided S) (decides_by same BadLength (T-eq (length cells) (nodes S))))
      cells_decided

  -- ---- the bad cell that an answer names

  pub bad_then : (a b : Answer) → NamesBad S cells (answer_no a) (answer_bad a) → NamesBad S cells (answer_no b) (answer_bad b)
      → NamesBad S cells (answer_no (a and_then b)) (answer_bad (a and_then b))
  bad_then (Ok _) b h k = k
  bad_then (Err r) b h k = h

  pub bad_unless : (t : Bool) (r : Refusal) → refusal_no r ≢ 4 → NamesBad S cells (answer_no (unless t r)) (answer_bad (unless t r))
  bad_unless true r n = (λ z. absurd (omega arith), λ _. refl)
  bad_unless false r n = (λ z. absurd (n z), λ _. no_cell r n)

  -- a test of another number names none
  pub bad_after : (a : Answer) (t : Bool) (r : Refusal) → refusal_no r ≢ 4 → NamesBad S cells (answer_no a) (answer_bad a)
      → NamesBad S cells (answer_no (a and_then unless t r)) (answer_bad (a and_then unless t r))
  bad_after a t r n h = bad_then a (unless t r) h (bad_unless t r n)

  pub bad_sizes : NamesBad S cells (answer_no (check_sizes S)) (answer_bad (check_sizes S))
  bad_sizes = bad_unless (in_range S) BadSizes (λ z. omega arith)

  pub bad_cells : NamesBad S cells (answer_no (check_cells S cells)) (answer_bad (check_cells S cells))
  bad_cells = go (ltb first (length cells)) refl
    where
      go : (t : Bool) → ltb first (length cells) ≡ t
          → NamesBad S cells (answer_no (cond t (Err (BadCell first)) accepted)) (answer_bad (cond t (Err (BadCell first)) accepted))
      go true e = (λ _. first_is_bad (ltb-true first (length cells) e), λ n. absurd (n refl))
      go false e = (λ z. absurd (omega arith), λ _. refl)

  pub bad_map : NamesBad S cells (answer_no (check_map S cells)) (answer_bad (check_map S cells))
  unfolding check_map
  bad_map =
      let same = eqb (length cells) (nodes S) in
      bad_then (check_sizes S and_then unless same BadLength) (check_cells S cells) (bad_after (check_sizes S) same BadLength (λ z. omega arith) bad_sizes) bad_cells

  -- there is one first bad cell, so there is one that an answer names
  first_one : (j k : ℕ) → FirstBad S cells j → FirstBad S cells k → j ≡ k
  first_one j k f g =
      let h : k < suc j = lt_of_not-le (λ l. (T-no (bad_cell S j (get_or cells j 0))).0 (g.none_before j l) f.bad) in
      let i : j < suc k = lt_of_not-le (λ l. (T-no (bad_cell S k (get_or cells k 0))).0 (f.none_before k l) g.bad) in
      omega arith

  pub bad_one : (n j k : ℕ) → NamesBad S cells n j → NamesBad S cells n k → j ≡ k
  bad_one n j k f g = elim (ℕ_discrete n 4) [ yes e ↦ first_one j k (f.0 e) (g.0 e) | no e ↦ f.1 e ∙ sym (g.1 e) ]

-- ---- answers and their numbers

-- no refusal has the number 0
pub not_zero : (r : Refusal) → refusal_no r ≢ 0
not_zero BadSizes e = omega arith
not_zero BadLength e = omega arith
not_zero NoRoom e = omega arith
not_zero (BadCell k) e = omega arith
not_zero BadNumber e = omega arith
not_zero Unsound e = omega arith
not_zero NoPair e = omega arith
not_zero NotHeld e = omega arith
not_zero FaultyEnd e = omega arith
not_zero NoPath e = omega arith
not_zero BadFile e = omega arith

-- so 0 tells that a call is granted
pub done_of : (a : Answer) → answer_no a ≡ 0 → a ≡ accepted
done_of (Ok _) e = refl
done_of (Err r) e = absurd (not_zero r e)

-- and another number that it is refused
pub refused_of : (a : Answer) → answer_no a ≢ 0 → (r : Refusal) × (a ≡ Err r)
refused_of (Ok _) n = absurd (n refl)
refused_of (Err r) n = (r, refl)

-- an answer with a value has the number and the bad cell of its checks, and the value where they grant it
pub numbered_as : (a : Answer) (n : ℕ) → (answer_no (answered a n) ≡ answer_no a) × (answer_bad (answered a n) ≡ answer_bad a) × (numbered_value (answered a n) ≡ answer_value a n)
numbered_as (Ok _) n = (refl, refl, refl)
numbered_as (Err r) n = (refl, refl, refl)
