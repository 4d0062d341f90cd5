-- A map, and the questions that its cells answer. Later versions change what stands behind a question, and nothing else. Assumes nothing.
use Rattle.std.specs.Prelude.{Bool, cond, not, List, [], ◌∷◌, ℕ, suc, ◌*◌, get_or, ltb, eqb, is_some}
use Rattle.mesh.specs.Mesh.{nodes, number}
use Rattle.mesh.specs.Steps.{next}
use Rattle.mesh.specs.declared.Sizes.{Sizes}
use Rattle.mesh.specs.declared.Place.{Place}

-- a map: the sizes, and a cell for each node
pub record Map : Type 0 where
  pub sizes : Sizes
  pub cells : List ℕ

abbrev pub map_of : Sizes → List ℕ → Map
map_of S cells = record { sizes = S; cells = cells }

abbrev pub cell_at : Map → Place → ℕ
cell_at m p = get_or m.cells (number m.sizes p) 0

-- "A cell is 0 (works) or 1 (faulty)."
unfoldable pub faulty_cell : ℕ → Bool
faulty_cell c = eqb c 1

-- the greatest byte that is a cell
abbrev pub cell_limit : ℕ
cell_limit = 1

-- the byte c is no cell for node k
unfoldable pub bad_cell : Sizes → ℕ → ℕ → Bool
bad_cell S k c = ltb cell_limit c

-- may a path pass through a node of this cell; may it start or end there
unfoldable pub may_pass : ℕ → Bool
may_pass c = not (faulty_cell c)

unfoldable pub may_end : ℕ → Bool
may_end c = not (faulty_cell c)

abbrev pub faulty : Map → Place → Bool
faulty m p = faulty_cell (cell_at m p)

abbrev pub works : Map → Place → Bool
works m p = not (faulty m p)

-- does the neighbour q of p in direction j block p by itself, marked or not
unfoldable pub wall : Map → Place → ℕ → Place → Bool
wall m p j q = faulty m q

-- may a hop or a word cross from p in direction j
unfoldable pub linked : Map → Place → ℕ → Bool
linked m p j = is_some (next m.sizes p j)

-- "On a map with other bytes, the answer names the first bad cell in node order": its number, or how many cells there are
unfoldable pub first_bad : (ℕ → ℕ → Bool) → List ℕ → ℕ
first_bad bad [] = 0
first_bad bad (c ∷ cs) = cond (bad 0 c) 0 (suc (first_bad (λ k. bad (suc k)) cs))

-- "Its state is 7 × N bytes."
abbrev pub state_length : Sizes → ℕ
state_length S = 7 * nodes S
