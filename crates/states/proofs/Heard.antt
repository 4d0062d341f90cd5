-- What a node may have heard. A working one 8, 1 or a word: of these the code's quick rule makes what the mark rule does. Assumes nothing.
use mathlib.Core.Path.{◌≡◌, refl, sym, subst}
use mathlib.Core.Logic.{inl, inr}
use mathlib.Core.Bool.{◌||◌}
use Prim.Native.Nat.{ℕ, ◌<◌}
use native.Mathlib.Omega.{arith}
use lib.Dec.{T, eqb}
use Rattle.mesh.specs.Cells.{Map}
use Rattle.rules.specs.Marks.{useless, cant_reach, has, is_word, byte_blocks, rule_byte}
use Rattle.mesh.specs.declared.Sizes.{Sizes}
use Rattle.mesh.specs.declared.Place.{Place}
use Rattle.mesh.proofs.Tests.{T-or, T-eq}
use Rattle.rules.proofs.Bytes.{word_cases}
use Rattle.talk.specs.Sound.{faulty_hears}
use Rattle.states.specs.Six.{is_own, is_heard, hinders, quick_rule}
use Rattle.states.proofs.Quick.{rule_by_lem}

-- a faulty node
pub faulty_byte : (m : Map) (p : Place) (j : ℕ) → faulty_hears m p j < 256
unfolding faulty_hears
faulty_byte m p j = omega arith

-- a working node
pub heard_cases : (P : ℕ → Type 0) → P 8 → P 1 → ((b : ℕ) → T (is_word b) → P b) → (b : ℕ) → T (is_heard b) → P b
unfolding is_heard is_own
heard_cases P x y f b t = elim ((T-or (eqb b 8) (eqb b 1 || is_word b)).0 t) [
  | inl e ↦ subst P (sym ((T-eq b 8).0 e)) x
  | inr u ↦ elim ((T-or (eqb b 1) (is_word b)).0 u) [ inl e ↦ subst P (sym ((T-eq b 1).0 e)) y | inr w ↦ f b w ]
]

pub word_heard : (b : ℕ) → T (is_word b) → T (is_heard b)
unfolding is_heard is_own
word_heard b w = (T-or (eqb b 8) (eqb b 1 || is_word b)).1 (inr ((T-or (eqb b 1) (is_word b)).1 (inr w)))

hinders_useless : (b : ℕ) → T (is_heard b) → hinders 2 b ≡ byte_blocks b useless
unfolding hinders byte_blocks has
hinders_useless = heard_cases (λ b. hinders 2 b ≡ byte_blocks b useless) refl refl
    (word_cases (λ b. hinders 2 b ≡ byte_blocks b useless) refl refl refl refl)

hinders_reach : (b : ℕ) → T (is_heard b) → hinders 4 b ≡ byte_blocks b cant_reach
unfolding hinders byte_blocks has
hinders_reach = heard_cases (λ b. hinders 4 b ≡ byte_blocks b cant_reach) refl refl
    (word_cases (λ b. hinders 4 b ≡ byte_blocks b cant_reach) refl refl refl refl)

-- the quick rule is the rule on such bytes
pub quick_is : (S : Sizes) (o : ℕ) (h : ℕ → ℕ) → ((j : ℕ) → j < 6 → T (is_heard (h j))) → quick_rule S o h ≡ rule_byte S o h
unfolding quick_rule
quick_is S o h f = rule_by_lem hinders S o h (λ j l. hinders_useless (h j) (f j l)) λ j l. hinders_reach (h j) (f j l)
