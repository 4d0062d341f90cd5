-- The named questions, computed: on each cell, and on a map of 2 × 2 × 1 whose node 1 is faulty. So none of them can be asked the other way round in
-- definition and code at once. Assumes nothing.
use mathlib.Core.Path.{◌≡◌, refl}
use mathlib.Core.Bool.{Bool, true, false}
use mathlib.Core.List.{List, [], ◌∷◌}
use Prim.Native.Nat.{ℕ}
use Rattle.mesh.specs.Mesh.{sizes, place}
use Rattle.mesh.specs.Steps.{next}
use Rattle.mesh.specs.Cells.{Map, map_of, faulty_cell, bad_cell, may_pass, may_end, works, wall, linked, state_length}

-- "A cell is 0 (works) or 1 (faulty)", and another byte is none: is it bad, is it faulty, may it be passed, may it be an end
abbrev asked : ℕ → List Bool
asked c = bad_cell (sizes 2 2 1) 0 c ∷ faulty_cell c ∷ may_pass c ∷ may_end c ∷ []

pub cells_asked : asked 0 ∷ asked 1 ∷ (bad_cell (sizes 2 2 1) 0 2 ∷ []) ∷ []
    ≡ (false ∷ false ∷ true ∷ true ∷ []) ∷ (false ∷ true ∷ false ∷ false ∷ []) ∷ (true ∷ []) ∷ []
unfolding bad_cell faulty_cell may_pass may_end
cells_asked = refl

abbrev small : Map
small = map_of (sizes 2 2 1) (0 ∷ 1 ∷ 0 ∷ 0 ∷ [])

-- node 0 works, node 1 does not; from node 0 one may cross in directions 0 and 2 alone, and what lies in direction 0 blocks by itself
pub map_asked : works small (place 0 0 0) ∷ works small (place 1 0 0) ∷ linked small (place 0 0 0) 0 ∷ linked small (place 0 0 0) 1
    ∷ linked small (place 0 0 0) 2 ∷ linked small (place 0 0 0) 4 ∷ wall small (place 0 0 0) 0 (place 1 0 0) ∷ wall small (place 0 0 0) 2 (place 0 1 0) ∷ []
    ≡ true ∷ false ∷ true ∷ false ∷ true ∷ false ∷ true ∷ false ∷ []
unfolding faulty_cell linked next wall
map_asked = refl

-- "Its state is 7 × N bytes."
pub state_bytes : state_length (sizes 5 5 1) ≡ 175
state_bytes = refl
