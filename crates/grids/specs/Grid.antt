-- The grid that the flood works on: a mesh of any size laid into rows of 17 and layers of 17 rows, 307 places in. At most 16 places of each row,
-- 16 rows of each layer and 16 layers are the mesh's, so that a step to a touching place is a fixed distance, and where it leads off the mesh it
-- meets an empty place. Assumes nothing.
use Rattle.std.specs.Prelude.{cond, ◌&&◌, List, [], ◌∷◌, ◌≡◌, ℕ, ◌+◌, ◌-◌, ◌*◌, ◌/◌, ◌%◌, ◌<◌, ◌≤◌, get_or, leb, eqb}
use Rattle.mesh.specs.Tools.{table}
use Rattle.mesh.specs.Mesh.{place, inside, number}
use Rattle.mesh.specs.declared.Sizes.{Sizes}
use Rattle.mesh.specs.declared.Place.{Place}

-- how many places the grid has: 307 before the mesh, and 17 layers of 289. The last spot is 4912, and a step leads at most 306 further.
abbrev pub grid_size : ℕ
grid_size = 5220

-- where a place of the mesh lies in the grid, and which place lies there
abbrev pub spot : Place → ℕ
spot p = 307 + (p.x + 17 * p.y + 289 * p.z)

abbrev pub place_at : ℕ → Place
place_at j = place ((j - 307) % 17) ((j - 307) / 17 % 17) ((j - 307) / 289)

-- what the grid holds: 0 where there is no unsafe node, a component's number, or this at an unsafe node that has none yet
abbrev pub unseen : ℕ
unseen = 65535

-- the grid of mark bytes before the flood
abbrev pub shade : ℕ → ℕ
shade mark = cond (eqb mark 0) 0 unseen

unfoldable pub grid_at : Sizes → List ℕ → ℕ → ℕ
grid_at S marks j = cond (leb 307 j && inside S (place_at j)) (shade (get_or marks (number S (place_at j)) 0)) 0

-- all of it
abbrev pub grid_of : Sizes → List ℕ → List ℕ
grid_of S marks = table (grid_at S marks) grid_size

-- a spot of some mesh
pub record Spot (j : ℕ) : Type 0 where
  pub inner : 307 ≤ j
  pub x_in : (j - 307) % 17 < 16
  pub y_in : (j - 307) / 17 % 17 < 16
  pub z_in : (j - 307) / 289 < 16

-- The eighteen steps by -1, 0 or 1 on each axis, on one or two axes by not 0: x + 17 × y + 289 × z, with 307 added to each.
abbrev pub around : List ℕ
around =
    1 ∷ 17 ∷ 18 ∷ 19 ∷ 35 ∷ 289 ∷ 290 ∷ 291 ∷ 306 ∷ 308 ∷ 323 ∷ 324 ∷ 325 ∷ 579 ∷ 595 ∷ 596 ∷ 597 ∷ 613 ∷ []

-- j is one of those steps from i
abbrev pub Beside : ℕ → ℕ → Type 0
Beside i j = (o : ℕ) × (o < 18) × (j + 307 ≡ i + get_or around o 0)
