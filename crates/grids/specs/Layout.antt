-- How a mesh is laid into the grid, and how the numbers come back out of it. Assumes nothing.
use Rattle.std.specs.Prelude.{List, ◌++◌, ◌≡◌, ℕ, ◌+◌, ◌*◌, ◌<◌, ◌≤◌, length, get_or, drop}
use Rattle.mesh.specs.Tools.{table}
use Rattle.mesh.specs.Mesh.{nodes, place_of}
use Rattle.mesh.specs.declared.Sizes.{Sizes}
use Rattle.grids.specs.Grid.{grid_size, spot, grid_at}

-- where the row with y and z begins: its first node, and that node's place in the grid; the whole row lies in both
pub record RowOf (S : Sizes) (y z node at : ℕ) : Type 0 where
  pub first : node ≡ S.w * (y + S.h * z)
  pub placed : at ≡ 307 + (17 * y + 289 * z)
  pub in_mesh : node + S.w ≤ nodes S
  pub in_grid : at + S.w ≤ grid_size

-- up to place n the grid is that of the mark bytes, and from there on it is empty
pub record Laid (S : Sizes) (marks : List ℕ) (n : ℕ) (g : List ℕ) : Type 0 where
  pub long : length g ≡ grid_size
  pub done : (j : ℕ) → j < n → get_or g j 0 ≡ grid_at S marks j
  pub empty : (j : ℕ) → n ≤ j → get_or g j 0 ≡ 0

-- each node has what the grid holds at its spot, and the rest has stayed; and so for the first n nodes
abbrev pub copied : Sizes → List ℕ → List ℕ → List ℕ
copied S g old = table (λ k. get_or g (spot (place_of S k)) 0) (nodes S) ++ drop (nodes S) old

pub record Copied (S : Sizes) (g old : List ℕ) (n : ℕ) (new : List ℕ) : Type 0 where
  pub long : length new ≡ length old
  pub done : (k : ℕ) → k < n → get_or new k 0 ≡ get_or g (spot (place_of S k)) 0
  pub rest : (k : ℕ) → n ≤ k → get_or new k 0 ≡ get_or old k 0
