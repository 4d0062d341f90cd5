-- Rounds one step on. Assumes nothing.
use mathlib.Core.Path.{◌≡◌, refl}
use mathlib.Core.List.{List}
use Prim.Native.Nat.{ℕ, ◌+◌}
use native.Mathlib.Numerals.{add-one}
use Rattle.mesh.specs.declared.Sizes.{Sizes}
use Rattle.rounds.specs.Links.{Net, saying, comes, visit}
use Rattle.rounds.specs.Rounds.{met, visits, tells}

module _ (S : Sizes) (o : ℕ) where
  pub no_visit : (first stride : ℕ) (n : Net) → n ≡ visits S o first stride n 0
  unfolding visits
  no_visit first stride n = refl

  pub visit_more : (first stride : ℕ) (n : Net) (i : ℕ) → visits S o first stride n (i + 1)
      ≡ visit S o (visits S o first stride n i) (met S first stride i)
  unfolding visits
  visit_more first stride n i = rw add-one

  pub none_told : (s : List ℕ) → s ≡ tells S o s 0
  unfolding tells
  none_told s = refl

  pub tell_more : (s : List ℕ) (l : ℕ) → tells S o s (l + 1) ≡ comes S o l (saying S (tells S o s l) l) (tells S o s l)
  unfolding tells
  tell_more s l = rw add-one
