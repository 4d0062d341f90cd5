-- 01, "Size and numbering": sizes, places and numbers. Assumes nothing.
use Rattle.std.specs.Prelude.{Bool, ◌&&◌, ℕ, ◌+◌, ◌*◌, ◌/◌, ◌%◌, ◌<◌, ◌≤◌, ltb}
use Rattle.mesh.specs.Tools.{between}
use Rattle.mesh.specs.declared.Sizes.{Sizes}
use Rattle.mesh.specs.declared.Place.{Place}

abbrev pub sizes : ℕ → ℕ → ℕ → Sizes
sizes w h d = record { w = w; h = h; d = d }

abbrev pub place : ℕ → ℕ → ℕ → Place
place x y z = record { x = x; y = y; z = z }

-- the three axes; the size of the mesh and the coordinate of a place on one
pub data Axis : Type 0 where
  X Y Z : Axis

abbrev pub span : Sizes → Axis → ℕ
span S X = S.w
span S Y = S.h
span S Z = S.d

abbrev pub on : Place → Axis → ℕ
on p X = p.x
on p Y = p.y
on p Z = p.z

-- a test holds on every axis
abbrev pub every : (Axis → Bool) → Bool
every t = t X && t Y && t Z

-- "Width W and height H are 2 to 16, depth D is 1 to 16."
unfoldable pub in_range : Sizes → Bool
in_range S = between 2 16 S.w && between 2 16 S.h && between 1 16 S.d

pub record InRange (S : Sizes) : Type 0 where
  pub w_lo : 2 ≤ S.w
  pub w_hi : S.w ≤ 16
  pub h_lo : 2 ≤ S.h
  pub h_hi : S.h ≤ 16
  pub d_lo : 1 ≤ S.d
  pub d_hi : S.d ≤ 16

-- "N = W × H × D"
abbrev pub nodes : Sizes → ℕ
nodes S = S.w * (S.h * S.d)

-- a place in the mesh
unfoldable pub inside : Sizes → Place → Bool
inside S p = ltb p.x S.w && ltb p.y S.h && ltb p.z S.d

pub record Inside (S : Sizes) (p : Place) : Type 0 where
  pub x_in : p.x < S.w
  pub y_in : p.y < S.h
  pub z_in : p.z < S.d

-- "Node (x, y, z) has number x + W × (y + H × z)."
abbrev pub number : Sizes → Place → ℕ
number S p = p.x + S.w * (p.y + S.h * p.z)

-- the place of node k
abbrev pub place_of : Sizes → ℕ → Place
place_of S k = place (k % S.w) (k / S.w % S.h) (k / S.w / S.h)
