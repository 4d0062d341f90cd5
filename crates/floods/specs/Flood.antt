-- What the steps of the flood promise one another. Assumes nothing.
use Rattle.std.specs.Prelude.{List, ◌⊎◌, ◌≡◌, ℕ, ◌+◌, ◌<◌, ◌≤◌, length, get_or, set, eqb}
use Rattle.mesh.specs.Tools.{count}
use Rattle.grids.specs.Grid.{grid_size, unseen, around, Beside}

-- b is reached from a by steps to touching places, each to an unseen one
pub data Linked (g : List ℕ) (a : ℕ) : ℕ → Type 0 where
  here : Linked g a a
  onward : {b c : ℕ} → Linked g a b → Beside b c → get_or g c 0 ≡ unseen → Linked g a c

-- how many places hold v
abbrev pub how_often : List ℕ → ℕ → ℕ
how_often g v = count (length g) λ j. eqb (get_or g j 0) v

-- grid and queue have their size
pub record Sized (g q : List ℕ) : Type 0 where
  pub grid : length g ≡ grid_size
  pub queue : length q ≡ grid_size

-- One place is looked at: an unseen one gets the number m and enters the queue; any other changes nothing.
pub data Visited (g q : List ℕ) (tail at m : ℕ) : List ℕ → List ℕ → ℕ → Type 0 where
  entered : get_or g at 0 ≡ unseen → Visited g q tail at m (set g at m) (set q tail at) (tail + 1)
  passed : (get_or g at 0 ≡ unseen → ⊥) → Visited g q tail at m g q tail

-- A part of the component of a, while it is flooded: g was the grid before, h is the grid now. The places with number m are those
-- of the queue, they were unseen, and each is linked to a; no other place has changed.
pub record Part (g : List ℕ) (a m : ℕ) (h q : List ℕ) (tail : ℕ) : Type 0 where
  pub kept : (j : ℕ) → (get_or h j 0 ≡ get_or g j 0) ⊎ ((get_or g j 0 ≡ unseen) × (get_or h j 0 ≡ m))
  pub each : (t : ℕ) → t < tail → (get_or g (get_or q t 0) 0 ≡ unseen) × (get_or h (get_or q t 0) 0 ≡ m) × Linked g a (get_or q t 0)
  pub all : (j : ℕ) → get_or h j 0 ≡ m → (t : ℕ) × (t < tail) × (get_or q t 0 ≡ j)

-- The first o places around a place are looked at: whatever part there was has grown, and none of those places is unseen.
pub record Spread (g q : List ℕ) (tail from m o : ℕ) (g' q' : List ℕ) (tail' : ℕ) : Type 0 where
  pub grows : (g₀ : List ℕ) (a : ℕ) → Part g₀ a m g q tail → Linked g₀ a from → Part g₀ a m g' q' tail'
  pub longer : tail ≤ tail'
  pub counted : how_often g' m ≡ tail'
  pub first : (t : ℕ) → t < tail → get_or q' t 0 ≡ get_or q t 0
  pub fewer : (j : ℕ) → get_or g' j 0 ≡ unseen → get_or g j 0 ≡ unseen
  pub none_left : (k j : ℕ) → k < o → j + 307 ≡ from + get_or around k 0 → get_or g' j 0 ≡ unseen → ⊥

-- The whole component of a: n places, and no unseen place beside one of them.
pub record Flooded (g : List ℕ) (a m : ℕ) (h q : List ℕ) (n : ℕ) : Type 0 where
  pub part : Part g a m h q n
  pub start : get_or h a 0 ≡ m
  pub counted : how_often h m ≡ n
  pub closed : (t j : ℕ) → t < n → Beside (get_or q t 0) j → get_or h j 0 ≡ unseen → ⊥
