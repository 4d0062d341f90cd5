-- What is promised of the grid after the flood has been through it: the components have their numbers, and each has its record. Assumes nothing.
use Rattle.std.specs.Prelude.{List, ◌⊎◌, ◌≡◌, ℕ, suc, ◌-◌, ◌/◌, ◌%◌, ◌<◌, ◌≤◌, min, max, length, get_or, replicate}
use Rattle.mesh.specs.Mesh.{Axis, on, place}
use Rattle.mesh.specs.declared.Place.{Place}
use Rattle.grids.specs.Grid.{grid_size, unseen, place_at, Spot, Beside}
use Rattle.floods.specs.Flood.{Linked, how_often}
use Rattle.touching.specs.Components.{least_of, greatest_of}
use Rattle.touching.specs.Promise.{Bounds}
use Rattle.touching.specs.declared.Component.{Component}

-- the record of n nodes that lie all at p, and a record widened to a place
abbrev pub alone : Place → ℕ → Component
alone p n = record { count = n; x0 = p.x; y0 = p.y; z0 = p.z; x1 = p.x; y1 = p.y; z1 = p.z }

abbrev pub widen : Component → Place → Component
widen c p =
    record {
      count = c.count;
      x0 = min c.x0 p.x;
      y0 = min c.y0 p.y;
      z0 = min c.z0 p.z;
      x1 = max c.x1 p.x;
      y1 = max c.y1 p.y;
      z1 = max c.z1 p.z;
    }

-- room for the records of as many components as a mesh can have, and no record in it
abbrev pub no_records : List Component
no_records = replicate 1024 (alone (place 0 0 0) 0)

-- the least and the greatest coordinate on an axis: of the first n places of the queue, and of the places that hold the number m
abbrev pub Ranged : List ℕ → ℕ → Axis → ℕ → ℕ → Type 0
Ranged q n axis lo hi = Bounds (λ t. t < n) (λ t. on (place_at (get_or q t 0)) axis) lo hi

abbrev pub Spans : List ℕ → ℕ → Axis → ℕ → ℕ → Type 0
Spans h m axis lo hi = Bounds (λ j. get_or h j 0 ≡ m) (λ j. on (place_at j) axis) lo hi

-- c is the record of the component with number m
pub record Recorded (h : List ℕ) (m : ℕ) (c : Component) : Type 0 where
  pub members : c.count ≡ how_often h m
  pub spans : (axis : Axis) → Spans h m axis (least_of c axis) (greatest_of c axis)

-- a grid before the flood
abbrev pub Untouched : List ℕ → Type 0
Untouched g = (j : ℕ) → (get_or g j 0 ≡ 0) ⊎ ((get_or g j 0 ≡ unseen) × Spot j)

-- the unsafe places lie in the first h rows of the first d layers
abbrev pub Within : ℕ → ℕ → List ℕ → Type 0
Within h d g = (j : ℕ) → get_or g j 0 ≡ unseen → ((j - 307) / 17 % 17 < h) × ((j - 307) / 289 < d)

-- The places below k have been passed, and n components have been found: g was the grid before, h is the grid now.
pub record Labelled (g : List ℕ) (k n : ℕ) (h : List ℕ) (row : List Component) : Type 0 where
  pub size : length h ≡ grid_size
  pub kept : (j : ℕ) → (get_or h j 0 ≡ get_or g j 0) ⊎ ((get_or g j 0 ≡ unseen) × (1 ≤ get_or h j 0) × (get_or h j 0 ≤ n))
  pub passed : (j : ℕ) → j < k → get_or h j 0 ≡ unseen → ⊥
  -- no unsafe place beside a numbered one has another number, or none
  pub closed : (i j : ℕ) → 1 ≤ get_or h i 0 → get_or h i 0 ≤ n → Beside i j → get_or g j 0 ≡ unseen → get_or h j 0 ≡ get_or h i 0
  -- each number is used, and its places are linked
  pub linked : (i : ℕ) → i < n → (a : ℕ) × (a < k) × (get_or h a 0 ≡ suc i) × ((j : ℕ) → get_or h j 0 ≡ suc i → Linked g a j)
  -- below each place of a component lie places of all components with lower numbers
  pub rising : (i l j : ℕ) → l < i → i < n → get_or h j 0 ≡ suc i → (b : ℕ) × (b < j) × (get_or h b 0 ≡ suc l)
  pub recorded : (i : ℕ) (c : Component) → i < n → Recorded h (suc i) (get_or row i c)
  -- and no record after those
  pub no_more : (i : ℕ) (c : Component) → n ≤ i → get_or row i c ≡ get_or no_records i c
