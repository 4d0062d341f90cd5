-- How many of an ascending list are not above a number: the only way to number the list upwards from 1. Assumes nothing.
use mathlib.Core.Path.{◌≡◌, refl, sym, ap, ◌∙◌}
use mathlib.Core.Logic.{inl, inr}
use mathlib.Core.List.{List, [], ◌∷◌}
use Prim.Native.Nat.{ℕ, zero, suc, ◌+◌, ◌≤◌, ◌<◌}
use native.Mathlib.Omega.{arith}
use lib.Dec.{T, leb, leb→le, le→leb, nleb→lt}
use lib.ListN.{length, get_or}
use Rattle.mesh.proofs.Tests.{tried}
use Rattle.touching.specs.Lists.{is_in, keep}
use Rattle.touching.proofs.Lists.{T-in, in_first, in_none, keep_yes, T-keep, keep_few, keep_tight, Ascending}

abbrev pub rank : List ℕ → ℕ → ℕ
rank l a = length (keep (λ k. leb k a) l)

not_empty : (l : List ℕ) (a : ℕ) → T (is_in a l) → 1 ≤ length l
not_empty [] a i = absurd (in_none a i)
not_empty (j ∷ js) a i = omega arith

empty : (l : List ℕ) → ((a : ℕ) → T (is_in a l) → ⊥) → length l ≡ 0
empty [] h = refl
empty (j ∷ js) h = absurd (h j (in_first j js))

pub at_in : (l : List ℕ) (i : ℕ) → i < length l → T (is_in (get_or l i 0) l)
at_in [] i h = absurd (omega arith)
at_in (j ∷ js) zero h = in_first j js
at_in (j ∷ js) (suc i) h = (T-in (get_or js i 0) j js).1 (inr (at_in js i (omega arith)))

-- ---- ranks

pub rank_pos : (l : List ℕ) (a : ℕ) → T (is_in a l) → 1 ≤ rank l a
rank_pos l a i = not_empty (keep (λ k. leb k a) l) a ((T-keep (λ k. leb k a) l a).1 (i, le→leb a a (omega arith)))

pub rank_few : (l : List ℕ) (a : ℕ) → rank l a ≤ length l
rank_few l a = keep_few (λ k. leb k a) l

pub rank_lt : (l : List ℕ) (a b : ℕ) → T (is_in b l) → a < b → rank l a < rank l b
rank_lt l a b i h = elim (tried (leb (rank l b) (rank l a))) [
  | inl t ↦
      let e : keep (λ k. leb k b) l ≡ keep (λ k. leb k a) l = keep_tight (λ k. leb k a) (λ k. leb k b) l wider (leb→le (rank l b) (rank l a) t) in
      let q = rw e at ((T-keep (λ k. leb k b) l b).1 (i, le→leb b b (omega arith))) in
      absurd (omega (arith, leb→le b a ((T-keep (λ k. leb k a) l b).0 q).1))
  | inr t ↦ nleb→lt (rank l b) (rank l a) t
]
  where
    wider : (k : ℕ) → T (is_in k l) → T (leb k a) → T (leb k b)
    wider k m t = le→leb k b (omega (arith, leb→le k a t))

pub rank_inj : (l : List ℕ) (a b : ℕ) → T (is_in a l) → T (is_in b l) → rank l a ≡ rank l b → a ≡ b
rank_inj l a b i j e = elim (tried (leb a b)) [
  | inl s ↦ elim (tried (leb b a)) [
    | inl t ↦ omega (arith, leb→le a b s, leb→le b a t)
    | inr t ↦ absurd (omega (arith, rank_lt l a b j (nleb→lt b a t)))
  ]
  | inr s ↦ absurd (omega (arith, rank_lt l b a i (nleb→lt a b s)))
]

rank_low : (j : ℕ) (js : List ℕ) (a : ℕ) → j ≤ a → rank (j ∷ js) a ≡ suc (rank js a)
rank_low j js a h = ap length (keep_yes (λ k. leb k a) j js (le→leb j a h))

rank_first : (j : ℕ) (js : List ℕ) → Ascending (j ∷ js) → rank (j ∷ js) j ≡ 1
rank_first j js asc =
    rank_low j js j (omega arith)
    ∙ ap suc (empty (keep (λ k. leb k j) js) λ a i.
    let (m, t) = (T-keep (λ k. leb k j) js a).0 i in
    absurd (omega (arith, leb→le a j t, asc.0 a m)))

-- the i-th of the list, counted from 0, has rank i + 1
pub rank_at : (l : List ℕ) → Ascending l → (i : ℕ) → i < length l → rank l (get_or l i 0) ≡ suc i
rank_at [] asc i h = absurd (omega arith)
rank_at (j ∷ js) asc zero h = rank_first j js asc
rank_at (j ∷ js) asc (suc i) h =
    let above : j < get_or js i 0 = asc.0 (get_or js i 0) (at_in js i (omega arith)) in
    rank_low j js (get_or js i 0) (omega arith) ∙ ap suc (rank_at js asc.1 i (omega arith))

-- numbers that rise along the list and are all of s + 1 .. n are the ranks, raised by s
module _ (f : ℕ → ℕ) (n : ℕ) where
  pub rank_only : (l : List ℕ) → Ascending l → (s : ℕ) → s ≤ n
      → ((a b : ℕ) → T (is_in a l) → T (is_in b l) → a < b → f a < f b)
      → ((a : ℕ) → T (is_in a l) → (s < f a) × (f a ≤ n))
      → ((v : ℕ) → s < v → v ≤ n → (a : ℕ) × T (is_in a l) × (f a ≡ v))
      → (n ≡ s + length l) × ((a : ℕ) → T (is_in a l) → f a ≡ s + rank l a)
  rank_only [] asc s h up within onto = (
    elim (tried (leb n s)) [
      | inl t ↦ omega (arith, leb→le n s t)
      | inr t ↦ let (a, i, e) = onto n (nleb→lt n s t) (omega arith) in absurd (in_none a i)
    ],
    λ a i. absurd (in_none a i),
  )
  rank_only (j ∷ js) asc s h up within onto =
      let (lo, hi) = within j (in_first j js) in
      let first : f j ≡ suc s = hit (onto (suc s) (omega arith) (omega arith)) in
      let (e, g) = rank_only js asc.1 (suc s) (omega arith) (λ a b p q. up a b (rest a p) (rest b q))
      (λ a i. (omega (arith, up j a (in_first j js) (rest a i) (asc.0 a i)), (within a (rest a i)).1))
      (λ v p q. other v p (onto v (omega arith) q) first) in (
        omega arith,
        λ a i. elim ((T-in a j js).0 i) [
          | inl k ↦ rw (k, rank_first j js asc) (omega arith)
          | inr k ↦ rw (rank_low j js a (omega (arith, asc.0 a k)), g a k) (omega arith)
        ],
      )
    where
      rest : (a : ℕ) → T (is_in a js) → T (is_in a (j ∷ js))
      rest a i = (T-in a j js).1 (inr i)

      hit : (x : ℕ) × T (is_in x (j ∷ js)) × (f x ≡ suc s) → f j ≡ suc s
      hit q = elim ((T-in q.0 j js).0 q.1) [
        | inl e ↦ ap f (sym e) ∙ q.2
        | inr i ↦ absurd (omega (arith, q.2, (within j (in_first j js)).0, up j q.0 (in_first j js) q.1 (asc.0 q.0 i)))
      ]

      other : (v : ℕ) → suc s < v → (x : ℕ) × T (is_in x (j ∷ js)) × (f x ≡ v) → f j ≡ suc s → (x : ℕ) × T (is_in x js) × (f x ≡ v)
      other v p q first = elim ((T-in q.0 j js).0 q.1) [
        | inl e ↦ absurd (omega (arith, q.2, ap f e))
        | inr i ↦ (q.0, i, q.2)
      ]
