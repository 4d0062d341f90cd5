-- The least and the greatest of a list, shown at once: the folded value bounds every element, and is one of them. Assumes nothing.
use mathlib.Core.Path.{◌≡◌, refl, ◌∙◌}
use mathlib.Core.Logic.{◌⊎◌, inl, inr}
use mathlib.Core.List.{List, [], ◌∷◌, foldr}
use Prim.Native.Nat.{ℕ, min, max, ◌≤◌}
use native.Mathlib.Omega.{arith}
use native.Mathlib.Nat.{min-eq_left, min-eq_right, max-eq_left, max-eq_right}
use lib.Dec.{T, leb, leb→le, nleb→lt}
use Rattle.mesh.proofs.Tests.{tried}
use Rattle.touching.specs.Lists.{is_in, folded_by, least, greatest}
use Rattle.touching.proofs.Lists.{T-in, in_first, in_none}

-- of two, `pick` takes one that bounds both
record Picks (pick : ℕ → ℕ → ℕ) (R : ℕ → ℕ → Type 0) : Type 0 where
  itself : (a : ℕ) → R a a
  chain : (a b c : ℕ) → R a b → R b c → R a c
  first : (a b : ℕ) → R (pick a b) a
  second : (a b : ℕ) → R (pick a b) b
  either : (a b : ℕ) → (pick a b ≡ a) ⊎ (pick a b ≡ b)

module _ {pick : ℕ → ℕ → ℕ} {R : ℕ → ℕ → Type 0} (B : Picks pick R) (f : ℕ → ℕ) where
  abbrev fold : ℕ → List ℕ → ℕ
  fold n l = foldr (λ j m. pick (f j) m) n l

  past : (n : ℕ) (l : List ℕ) → R (fold n l) n
  past n [] = B.itself n
  past n (j ∷ js) = B.chain (pick (f j) (fold n js)) (fold n js) n (B.second (f j) (fold n js)) (past n js)

  each : (n : ℕ) (l : List ℕ) (k : ℕ) → T (is_in k l) → R (fold n l) (f k)
  each n [] k i = absurd (in_none k i)
  each n (j ∷ js) k i = elim ((T-in k j js).0 i) [
    | inl e ↦ rw e (B.first (f j) (fold n js))
    | inr h ↦ B.chain (pick (f j) (fold n js)) (fold n js) (f k) (B.second (f j) (fold n js)) (each n js k h)
  ]

  met : (n : ℕ) (l : List ℕ) → (fold n l ≡ n) ⊎ ((k : ℕ) × T (is_in k l) × (fold n l ≡ f k))
  met n [] = inl refl
  met n (j ∷ js) = elim (B.either (f j) (fold n js)) [
    | inl e ↦ inr (j, in_first j js, e)
    | inr e ↦ elim (met n js) [ inl g ↦ inl (e ∙ g) | inr g ↦ inr (g.0, (T-in g.0 j js).1 (inr g.1), e ∙ g.2) ]
  ]

  bounds : (l : List ℕ) (k : ℕ) → T (is_in k l) → R (folded_by pick f l) (f k)
  bounds [] k i = absurd (in_none k i)
  bounds (j ∷ js) k i = elim ((T-in k j js).0 i) [ inl e ↦ rw e (past (f j) js) | inr h ↦ each (f j) js k h ]

  taken : (l : List ℕ) (k : ℕ) → T (is_in k l) → (m : ℕ) × T (is_in m l) × (folded_by pick f l ≡ f m)
  taken [] k i = absurd (in_none k i)
  taken (j ∷ js) k i = elim (met (f j) js) [ inl e ↦ (j, in_first j js, e) | inr g ↦ (g.0, (T-in g.0 j js).1 (inr g.1), g.2) ]

low : Picks min ◌≤◌
low =
    record {
      itself = λ a. omega arith;
      chain = λ a b c g h. omega arith;
      first = λ a b. omega arith;
      second = λ a b. omega arith;
      either = λ a b. elim (tried (leb a b)) [ inl t ↦ inl (min-eq_left (leb→le a b t)) | inr t ↦ inr (min-eq_right (omega (arith, nleb→lt a b t))) ];
    }

high : Picks max (λ a b. b ≤ a)
high =
    record {
      itself = λ a. omega arith;
      chain = λ a b c g h. omega arith;
      first = λ a b. omega arith;
      second = λ a b. omega arith;
      either = λ a b. elim (tried (leb a b)) [ inl t ↦ inr (max-eq_right (leb→le a b t)) | inr t ↦ inl (max-eq_left (omega (arith, nleb→lt a b t))) ];
    }

module _ (f : ℕ → ℕ) (l : List ℕ) (k : ℕ) (i : T (is_in k l)) where
  pub least_le : least f l ≤ f k
  unfolding least
  least_le = bounds low f l k i

  pub least_met : (m : ℕ) × T (is_in m l) × (least f l ≡ f m)
  unfolding least
  least_met = taken low f l k i

  pub greatest_le : f k ≤ greatest f l
  unfolding greatest
  greatest_le = bounds high f l k i

  pub greatest_met : (m : ℕ) × T (is_in m l) × (greatest f l ≡ f m)
  unfolding greatest
  greatest_met = taken high f l k i
