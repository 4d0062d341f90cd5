-- The nodes between two places, in steps from the first towards the second, so that all eight ways to run are one case. Inner
-- contracts are stated in these words, and so is the picture of a refusal. Assumes nothing.
use Rattle.std.specs.Prelude.{◌≡◌, true, false, cond, List, ℕ, ◌+◌, ◌-◌, ◌*◌, ◌<◌, ◌≤◌, nat_abs, length, get_or, ltb}
use Rattle.std.proofs.Math.IntN.{sub_ℕ}
use Rattle.mesh.specs.Tools.{bit}
use Rattle.mesh.specs.Mesh.{sizes, place, nodes, number, InRange}
use Rattle.mesh.specs.Cells.{Map, bad_cell, faulty}
use Rattle.mesh.specs.declared.Sizes.{Sizes}
use Rattle.mesh.specs.declared.Place.{Place}
use Rattle.rows.specs.Row.{bit_at, packed}
use Rattle.rows.specs.declared.Run.{Run}
use Rattle.rows.specs.declared.Between.{Between}

-- every mesh fits into it
abbrev pub largest : Sizes
largest = sizes 16 16 16

-- from the coordinate c to the coordinate b; from u to v
abbrev pub run : ℕ → ℕ → Run
run c b = record { from = c; steps = nat_abs (sub_ℕ b c); down = ltb b c }

abbrev pub between : Place → Place → Between
between u v = record { x = run u.x v.x; y = run u.y v.y; z = run u.z v.z }

-- the coordinate after i steps; the place after t.x, t.y and t.z steps
abbrev pub gone : Run → ℕ → ℕ
gone r i = cond r.down (r.from - i) (r.from + i)

abbrev pub reach : Between → Place → Place
reach g t = place (gone g.x t.x) (gone g.y t.y) (gone g.z t.z)

-- the opposite corner, in steps
abbrev pub far : Between → Place
far g = place g.x.steps g.y.steps g.z.steps

-- no more steps than the box has
pub record Within (g : Between) (t : Place) : Type 0 where
  pub x_le : t.x ≤ g.x.steps
  pub y_le : t.y ≤ g.y.steps
  pub z_le : t.z ≤ g.z.steps

-- the nodes of row b of layer c, as a run of numbers
abbrev pub row_run : Sizes → Between → ℕ → ℕ → Run
row_run S g b c = record { from = number S (reach g (place 0 b c)); steps = g.x.steps; down = g.x.down }

-- a run that stays on an axis of n; a box that stays in the mesh
pub record OnAxis (r : Run) (n : ℕ) : Type 0 where
  pub starts : r.from < n
  pub low : r.down ≡ true → r.steps ≤ r.from
  pub high : r.down ≡ false → r.from + r.steps < n

pub record Held (S : Sizes) (g : Between) : Type 0 where
  pub x_on : OnAxis g.x S.w
  pub y_on : OnAxis g.y S.h
  pub z_on : OnAxis g.z S.d

-- the number of the node after a, b and c steps
abbrev pub spot : Sizes → Between → ℕ → ℕ → ℕ → ℕ
spot S g a b c = number S (reach g (place a b c))

-- each byte is a cell
abbrev pub Good : Sizes → List ℕ → Type 0
Good S cells = (k : ℕ) → k < length cells → bad_cell S k (get_or cells k 0) ≡ false

-- a byte for each node of a mesh, and a box in it
pub record Ready (S : Sizes) (cells : List ℕ) (g : Between) : Type 0 where
  pub sized : InRange S
  pub whole : length cells ≡ nodes S
  pub held : Held S g

-- the faulty nodes of row b of layer c, as one number
abbrev pub faulty_row : Map → Between → ℕ → ℕ → ℕ
faulty_row m g b c = packed (λ a. faulty m (reach g (place a b c))) (g.x.steps + 1)

-- those of the rows of layer c
abbrev pub FaultyRows : Map → Between → ℕ → List ℕ → Type 0
FaultyRows m g c faulty = (b : ℕ) → b ≤ g.y.steps → get_or faulty b 0 ≡ faulty_row m g b c

-- a byte for each node of a box
pub record Room (S : Sizes) (g : Between) (bytes : List ℕ) : Type 0 where
  pub sized : InRange S
  pub held : Held S g
  pub fits : (t : Place) → Within g t → number S (reach g t) < length bytes

-- In the first n rows of layer c, v is added to the byte of each node whose bit is 1; no other byte changes.
pub record AddedRows (S : Sizes) (g : Between) (c v : ℕ) (rows old new : List ℕ) (n : ℕ) : Type 0 where
  pub at : (a b : ℕ) → a ≤ g.x.steps → b < n → b ≤ g.y.steps → get_or new (spot S g a b c) 0 ≡ get_or old (spot S g a b c) 0 + v * bit (bit_at (get_or rows b 0) a)
  pub kept : (i : ℕ) → ((a b : ℕ) → a ≤ g.x.steps → b < n → b ≤ g.y.steps → i ≡ spot S g a b c → ⊥) → get_or new i 0 ≡ get_or old i 0
  pub size : length new ≡ length old
