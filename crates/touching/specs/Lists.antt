-- What the definitions of components are written with: lists of node numbers. Assumes nothing.
use Rattle.std.specs.Prelude.{Bool, true, false, ◌||◌, ℕ, min, max, eqb}
use mathlib.Core.List.{List, [], ◌∷◌, foldr}

-- a test holds of one of the list
unfoldable pub any_of : List ℕ → (ℕ → Bool) → Bool
any_of [] p = false
any_of (k ∷ ks) p = p k || any_of ks p

abbrev pub is_in : ℕ → List ℕ → Bool
is_in k ks = any_of ks (eqb k)

-- those of the list that pass a test, in its order
abbrev pub keep_if : Bool → ℕ → List ℕ → List ℕ
keep_if true k ks = k ∷ ks
keep_if false k ks = ks

unfoldable pub keep : (ℕ → Bool) → List ℕ → List ℕ
keep p [] = []
keep p (k ∷ ks) = keep_if (p k) k (keep p ks)

-- the least and the greatest f of a list; 0 of the empty one
abbrev pub folded_by : (ℕ → ℕ → ℕ) → (ℕ → ℕ) → List ℕ → ℕ
folded_by op f [] = 0
folded_by op f (k ∷ ks) = foldr (λ j n. op (f j) n) (f k) ks

unfoldable pub least : (ℕ → ℕ) → List ℕ → ℕ
least f l = folded_by min f l

unfoldable pub greatest : (ℕ → ℕ) → List ℕ → ℕ
greatest f l = folded_by max f l
