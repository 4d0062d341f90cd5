-- Lists of node numbers: what is in one, what is kept of one, and lists that ascend. Assumes nothing.
use mathlib.Core.Path.{◌≡◌, refl, sym, ap, ◌∙◌, subst}
use mathlib.Core.Logic.{◌↔◌, ◌⊎◌, inl, inr}
use mathlib.Core.Bool.{Bool, true, false, not, ◌&&◌}
use mathlib.Core.List.{List, [], ◌∷◌}
use Prim.Native.Nat.{ℕ, zero, suc, ◌+◌, ◌≤◌, ◌<◌}
use native.Mathlib.Omega.{arith}
use lib.Dec.{T, T_not, eqb, eqb→eq}
use lib.ListN.{length, get_or}
use Rattle.mesh.specs.Tools.{bit, table, sum, count}
use Rattle.mesh.proofs.Tests.{T-or, T-eq, holds_true, tried}
use Rattle.mesh.proofs.Tables.{sum_first}
use Rattle.touching.specs.Lists.{any_of, is_in, keep_if, keep}

-- ---- what is in a list

pub T-in : (k j : ℕ) (ks : List ℕ) → T (is_in k (j ∷ ks)) ↔ ((k ≡ j) ⊎ T (is_in k ks))
unfolding any_of
T-in k j ks = (
  λ t. elim ((T-or (eqb k j) (is_in k ks)).0 t) [ inl h ↦ inl (eqb→eq k j h) | inr h ↦ inr h ],
  λ s. (T-or (eqb k j) (is_in k ks)).1 (elim s [ inl e ↦ inl ((T-eq k j).1 e) | inr h ↦ inr h ]),
)

pub in_first : (k : ℕ) (ks : List ℕ) → T (is_in k (k ∷ ks))
in_first k ks = (T-in k k ks).1 (inl refl)

pub in_none : (k : ℕ) → T (is_in k []) → ⊥
unfolding any_of
in_none k t = t

pub T-any_of : (l : List ℕ) (p : ℕ → Bool) → T (any_of l p) ↔ ((k : ℕ) × T (is_in k l) × T (p k))
unfolding any_of
T-any_of [] p = (λ t. absurd t, λ f. absurd f.1)
T-any_of (j ∷ js) p = (
  λ t. elim ((T-or (p j) (any_of js p)).0 t) [
    | inl h ↦ (j, in_first j js, h)
    | inr h ↦ let (k, i, x) = (T-any_of js p).0 h in (k, (T-in k j js).1 (inr i), x)
  ],
  λ f.
      let (k, i, x) = f in
      (T-or (p j) (any_of js p)).1 (elim ((T-in k j js).0 i) [
        | inl e ↦ inl (subst (λ (n : ℕ). T (p n)) e x)
        | inr h ↦ inr ((T-any_of js p).1 (k, h, x))
      ]),
)

-- ---- what is kept of a list

module _ (p : ℕ → Bool) (j : ℕ) (js : List ℕ) where
  pub keep_yes : T (p j) → keep p (j ∷ js) ≡ j ∷ keep p js
  unfolding keep
  keep_yes t = rw ((holds_true (p j)).0 t)

  pub keep_no : (T (p j) → ⊥) → keep p (j ∷ js) ≡ keep p js
  unfolding keep
  keep_no f = rw (fails_false (p j) f)
    where
      fails_false : (b : Bool) → (T b → ⊥) → b ≡ false
      fails_false true g = absurd (g tt)
      fails_false false g = refl

pub T-keep : (p : ℕ → Bool) (l : List ℕ) (k : ℕ) → T (is_in k (keep p l)) ↔ (T (is_in k l) × T (p k))
unfolding keep
T-keep p [] k = (λ t. absurd (in_none k t), λ q. absurd (in_none k q.0))
T-keep p (j ∷ js) k = split (tried (p j)) (T-keep p js k)
  where
    split : T (p j) ⊎ T (not (p j)) → T (is_in k (keep p js)) ↔ (T (is_in k js) × T (p k))
        → T (is_in k (keep p (j ∷ js))) ↔ (T (is_in k (j ∷ js)) × T (p k))
    split (inl t) ih = rw (keep_yes p j js t) (
      λ h. elim ((T-in k j (keep p js)).0 h) [
        | inl e ↦ rw e (in_first j js, t)
        | inr i ↦ let q = ih.0 i in ((T-in k j js).1 (inr q.0), q.1)
      ],
      λ q. (T-in k j (keep p js)).1 (elim ((T-in k j js).0 q.0) [ inl e ↦ inl e | inr i ↦ inr (ih.1 (i, q.1)) ]),
    )
    split (inr t) ih = rw (keep_no p j js (T_not (p j) t)) (
      λ h. let q = ih.0 h in ((T-in k j js).1 (inr q.0), q.1),
      λ q. elim ((T-in k j js).0 q.0) [
        | inl e ↦ absurd (T_not (p j) t (subst (λ (n : ℕ). T (p n)) e q.1))
        | inr i ↦ ih.1 (i, q.1)
      ],
    )

pub keep_few : (p : ℕ → Bool) (l : List ℕ) → length (keep p l) ≤ length l
unfolding keep
keep_few p [] = omega arith
keep_few p (j ∷ js) = split (tried (p j)) (keep_few p js)
  where
    split : T (p j) ⊎ T (not (p j)) → length (keep p js) ≤ length js → length (keep p (j ∷ js)) ≤ suc (length js)
    split (inl t) ih = rw (keep_yes p j js t) (omega arith)
    split (inr t) ih = rw (keep_no p j js (T_not (p j) t)) (omega arith)

-- a weaker test keeps no less; and where it keeps no more, it keeps the same
module _ (p q : ℕ → Bool) where
  pub keep_le : (l : List ℕ) → ((k : ℕ) → T (is_in k l) → T (p k) → T (q k)) → length (keep p l) ≤ length (keep q l)
  unfolding keep
  keep_le [] h = omega arith
  keep_le (j ∷ js) h = split (tried (p j)) (tried (q j)) (keep_le js (λ k i. h k ((T-in k j js).1 (inr i))))
    where
      split : T (p j) ⊎ T (not (p j)) → T (q j) ⊎ T (not (q j)) → length (keep p js) ≤ length (keep q js)
          → length (keep p (j ∷ js)) ≤ length (keep q (j ∷ js))
      split (inl s) (inl t) ih = rw (keep_yes p j js s, keep_yes q j js t) (omega arith)
      split (inl s) (inr t) ih = absurd (T_not (q j) t (h j (in_first j js) s))
      split (inr s) (inl t) ih = rw (keep_no p j js (T_not (p j) s), keep_yes q j js t) (omega arith)
      split (inr s) (inr t) ih = rw (keep_no p j js (T_not (p j) s), keep_no q j js (T_not (q j) t)) ih

  pub keep_tight : (l : List ℕ) → ((k : ℕ) → T (is_in k l) → T (p k) → T (q k)) → length (keep q l) ≤ length (keep p l) → keep q l ≡ keep p l
  unfolding keep
  keep_tight [] h t = refl
  keep_tight (j ∷ js) h t = split (tried (p j)) (tried (q j)) (keep_tight js below)
    where
      below : (k : ℕ) → T (is_in k js) → T (p k) → T (q k)
      below k i = h k ((T-in k j js).1 (inr i))

      split : T (p j) ⊎ T (not (p j)) → T (q j) ⊎ T (not (q j)) → (length (keep q js) ≤ length (keep p js) → keep q js ≡ keep p js)
          → keep q (j ∷ js) ≡ keep p (j ∷ js)
      split (inl x) (inl y) ih =
          let e = keep_yes p j js x in
          let f = keep_yes q j js y in
          f ∙ ap (λ (l : List ℕ). j ∷ l) (ih (omega (arith, ap length e, ap length f))) ∙ sym e
      split (inl x) (inr y) ih = absurd (T_not (q j) y (h j (in_first j js) x))
      split (inr x) (inl y) ih =
          let e = keep_no p j js (T_not (p j) x) in
          let f = keep_yes q j js y in
          absurd (omega (arith, ap length e, ap length f, keep_le js below))
      split (inr x) (inr y) ih =
          let e = keep_no p j js (T_not (p j) x) in
          let f = keep_no q j js (T_not (q j) y) in
          f ∙ ih (omega (arith, ap length e, ap length f)) ∙ sym e

-- tests that agree on the list keep the same
pub keep_ext : (p q : ℕ → Bool) (l : List ℕ) → ((k : ℕ) → T (is_in k l) → T (p k) ↔ T (q k)) → keep p l ≡ keep q l
keep_ext p q l h = sym (keep_tight p q l (λ k i. (h k i).0) (keep_le q p l (λ k i. (h k i).1)))

-- ---- lists that ascend

-- each is below all that follow it
abbrev pub Ascending : List ℕ → Type 0
Ascending [] = Unit
Ascending (k ∷ ks) = ((j : ℕ) → T (is_in j ks) → k < j) × Ascending ks

pub keep_ascends : (p : ℕ → Bool) (l : List ℕ) → Ascending l → Ascending (keep p l)
unfolding keep
keep_ascends p [] a = tt
keep_ascends p (j ∷ js) a = split (tried (p j)) (keep_ascends p js a.1)
  where
    split : T (p j) ⊎ T (not (p j)) → Ascending (keep p js) → Ascending (keep p (j ∷ js))
    split (inl t) ih = rw (keep_yes p j js t) (λ k i. a.0 k ((T-keep p js k).0 i).0, ih)
    split (inr t) ih = rw (keep_no p j js (T_not (p j) t)) ih

-- the first of a list that ascends is its lowest
pub first_in : (l : List ℕ) (k : ℕ) → T (is_in k l) → T (is_in (get_or l 0 0) l)
first_in [] k i = absurd (in_none k i)
first_in (j ∷ js) k i = in_first j js

pub first_lowest : (l : List ℕ) → Ascending l → (k : ℕ) → T (is_in k l) → get_or l 0 0 ≤ k
first_lowest [] a k i = absurd (in_none k i)
first_lowest (j ∷ js) a k i = elim ((T-in k j js).0 i) [ inl e ↦ omega arith | inr h ↦ omega (arith, a.0 k h) ]

-- the numbers 0 .. n - 1, seen through f
pub T-table : (f : ℕ → ℕ) (n k : ℕ) → T (is_in k (table f n)) ↔ ((i : ℕ) × (i < n) × (k ≡ f i))
unfolding table
T-table f zero k = (λ t. absurd (in_none k t), λ h. absurd (omega (arith, h.1)))
T-table f (suc n) k = (
  λ t. elim ((T-in k (f 0) (table (λ i. f (suc i)) n)).0 t) [
    | inl e ↦ (0, omega arith, e)
    | inr h ↦ let (i, l, e) = (T-table (λ i. f (suc i)) n k).0 h in (suc i, omega arith, e)
  ],
  λ h. (T-in k (f 0) (table (λ i. f (suc i)) n)).1 (pick (T-table (λ i. f (suc i)) n k).1 h.0 h.1 h.2),
)
  where
    pick : ((i : ℕ) × (i < n) × (k ≡ f (suc i)) → T (is_in k (table (λ i. f (suc i)) n)))
        → (i : ℕ) → i < suc n → k ≡ f i → (k ≡ f 0) ⊎ T (is_in k (table (λ i. f (suc i)) n))
    pick more zero l e = inl e
    pick more (suc i) l e = inr (more (i, omega arith, e))

pub table_ascends : (f : ℕ → ℕ) (n : ℕ) → ((i j : ℕ) → i < j → f i < f j) → Ascending (table f n)
unfolding table
table_ascends f zero h = tt
table_ascends f (suc n) h = (
  λ k i. let (j, l, e) = (T-table (λ i. f (suc i)) n k).0 i in rw e (h 0 (suc j) (omega arith)),
  table_ascends (λ i. f (suc i)) n (λ i j l. h (suc i) (suc j) (omega arith)),
)

-- ---- counts

pub keep_keep : (p q : ℕ → Bool) (l : List ℕ) → keep p (keep q l) ≡ keep (λ k. q k && p k) l
unfolding keep
keep_keep p q [] = refl
keep_keep p q (j ∷ js) = split (q j) (keep_keep p q js)
  where
    split : (b : Bool) → keep p (keep q js) ≡ keep (λ k. q k && p k) js
        → keep p (keep_if b j (keep q js)) ≡ keep_if (b && p j) j (keep (λ k. q k && p k) js)
    split true ih = ap (keep_if (p j) j) ih
    split false ih = ih

pub keep_count : (p : ℕ → Bool) (f : ℕ → ℕ) (n : ℕ) → length (keep p (table f n)) ≡ count n (λ i. p (f i))
unfolding table keep sum
keep_count p f zero = refl
keep_count p f (suc n) =
    split (p (f 0))
    ∙ ap (λ (m : ℕ). bit (p (f 0)) + m) (keep_count p (λ i. f (suc i)) n)
    ∙ sym (sum_first n (λ k. bit (p (f k))))
  where
    split : (b : Bool) → length (keep_if b (f 0) (keep p (table (λ i. f (suc i)) n))) ≡ bit b + length (keep p (table (λ i. f (suc i)) n))
    split true = omega arith
    split false = omega arith
