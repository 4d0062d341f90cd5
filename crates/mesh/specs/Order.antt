-- 01: "Checks run in the order ..", "No refusal is given otherwise than stated." The checks of a call as a list, each with what must hold, and the
-- number that they give; those of a map; and the bad cell that an answer names. Assumes nothing.
use Rattle.std.specs.Prelude.{not, List, [], ◌∷◌, ◌⊎◌, ◌≢◌, ◌≡◌, ℕ, ◌<◌, T, length, get_or}
use Rattle.mesh.specs.Mesh.{InRange, nodes}
use Rattle.mesh.specs.Cells.{bad_cell}
use Rattle.mesh.specs.declared.Sizes.{Sizes}

-- a check: what must hold, and the number of the refusal where it does not
pub record Check : Type 1 where
  pub must : Type 0
  pub number : ℕ

infix 70 ◌else◌
abbrev pub ◌else◌ : Type 0 → ℕ → Check
must else n = record { must = must; number = n }

-- checks in their order give the number of the first that fails, and 0 where none does
infix 4 ◌give◌
abbrev pub ◌give◌ : List Check → ℕ → Type 0
[] give n = n ≡ 0
(c ∷ cs) give n = ((c.must → ⊥) × (n ≡ c.number)) ⊎ (c.must × (cs give n))

-- all of them pass
abbrev pub AllPass : List Check → Type 0
AllPass [] = Unit {0}
AllPass (c ∷ cs) = c.must × AllPass cs

-- no cell is bad; cell k is the first bad one
abbrev pub NoneBad : Sizes → List ℕ → Type 0
NoneBad S cells = (k : ℕ) → k < length cells → T (not (bad_cell S k (get_or cells k 0)))

pub record FirstBad (S : Sizes) (cells : List ℕ) (k : ℕ) : Type 0 where
  pub there : k < length cells
  pub bad : T (bad_cell S k (get_or cells k 0))
  pub none_before : (i : ℕ) → i < k → T (not (bad_cell S i (get_or cells i 0)))

-- a map in order: sizes in range, a cell for each node, none of them bad
pub record InOrder (S : Sizes) (cells : List ℕ) : Type 0 where
  pub sized : InRange S
  pub whole : length cells ≡ nodes S
  pub good : NoneBad S cells

-- the checks of a map: sizes (1), length (2), cells (4)
abbrev pub map_checks : Sizes → List ℕ → List Check
map_checks S cells = InRange S else 1 ∷ (length cells ≡ nodes S) else 2 ∷ NoneBad S cells else 4 ∷ []

-- "4 returns the node number of the first bad cell", and every other answer 0
abbrev pub NamesBad : Sizes → List ℕ → ℕ → ℕ → Type 0
NamesBad S cells refusal bad = (refusal ≡ 4 → FirstBad S cells bad) × (refusal ≢ 4 → bad ≡ 0)
