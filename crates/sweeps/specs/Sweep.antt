-- The sweep over a box, layer by layer from its first corner, a row of a layer as one number: what the functions of src/ leave in their rows. No promise is
-- stated in these words: what it means for paths that a node is seen is proved (proofs/Backward, proofs/Forward). Assumes nothing.
use Rattle.std.specs.Prelude.{◌≡◌, Bool, true, cond, ◌&&◌, ◌||◌, List, ℕ, zero, suc, ◌+◌, ◌-◌, ◌*◌, ◌^◌, ◌<◌, ◌≤◌, length, get_or, set, replicate, T, ltb, eqb, Some, None, Option}
use Rattle.mesh.specs.Tools.{bit}
use Rattle.mesh.specs.Mesh.{Axis, X, Y, Z, on, InRange, Inside, place, nodes}
use Rattle.mesh.specs.Cells.{Map, map_of, cell_at, may_pass, may_end}
use Rattle.mesh.specs.declared.Sizes.{Sizes}
use Rattle.mesh.specs.declared.Place.{Place}
use Rattle.rows.specs.Row.{bit_at}
use Rattle.rows.specs.Box.{largest, reach, far, Within, Good}
use Rattle.rows.specs.declared.Between.{Between}
use Rattle.sweeps.specs.declared.Ways.{Ways}

-- ---- what is seen

-- one step nearer to the corner on an axis; and whether the way in from there is seen
abbrev pub nearer : Place → Axis → Place
nearer t X = place (t.x - 1) t.y t.z
nearer t Y = place t.x (t.y - 1) t.z
nearer t Z = place t.x t.y (t.z - 1)

abbrev pub way_in : (Place → Bool) → Place → Axis → Bool
way_in seen t a = ltb 0 (on t a) && seen (nearer t a)

-- entered from one step nearer, on some axis; and on which
abbrev pub entry : (Place → Bool) → Place → Bool
entry seen t = way_in seen t X || way_in seen t Y || way_in seen t Z

abbrev pub ways_of : (Place → Bool) → Place → Ways
ways_of seen t = record { x = bit (way_in seen t X); y = bit (way_in seen t Y); z = bit (way_in seen t Z) }

-- The corner is seen, and any other node of the box if it may be passed and is entered from a seen one.
pub record Seen (m : Map) (g : Between) (seen : Place → Bool) : Type 0 where
  pub corner : seen (place 0 0 0) ≡ true
  pub later : (t : Place) → Within g t → (t ≡ place 0 0 0 → ⊥) → seen t ≡ may_pass (cell_at m (reach g t)) && entry seen t

-- the layer before layer c: before the first only the corner is seen
abbrev pub prior : (Place → Bool) → ℕ → ℕ → ℕ → Bool
prior seen zero a b = eqb a 0 && eqb b 0
prior seen (suc c) a b = seen (place a b c)

-- the ways into a node, whatever is seen
abbrev pub WaysTo : Map → Between → Place → Ways → Type 0
WaysTo m g t w = (seen : Place → Bool) → Seen m g seen → w ≡ ways_of seen t

-- ---- rows of bits

-- the rows of one layer say what `f a b` says
abbrev pub Holds : Between → (ℕ → ℕ → Bool) → List ℕ → Type 0
Holds g f rows = (a b : ℕ) → a ≤ g.x.steps → b ≤ g.y.steps → bit_at (get_or rows b 0) a ≡ f a b

-- the row before row b; none before the first
abbrev pub row_before : List ℕ → ℕ → ℕ
row_before rows b = cond (ltb 0 b) (get_or rows (b - 1) 0) 0

-- the first n rows of layer c, over those of the layer before
pub record Over (m : Map) (g : Between) (c n : ℕ) (old new : List ℕ) : Type 0 where
  pub at : (seen : Place → Bool) → Seen m g seen → Holds g (prior seen c) old
      → (a b : ℕ) → a ≤ g.x.steps → b < n → b ≤ g.y.steps → bit_at (get_or new b 0) a ≡ seen (place a b c)
  pub kept : (b : ℕ) → n ≤ b → get_or new b 0 ≡ get_or old b 0
  pub size : length new ≡ length old

-- layers i to n, each over the one before
pub record Layers (m : Map) (g : Between) (i n : ℕ) (old new : List ℕ) : Type 0 where
  pub holds : (seen : Place → Bool) → Seen m g seen → Holds g (prior seen i) old → Holds g (prior seen n) new
  pub size : length new ≡ length old

-- layer c over the one before it, and the ways into its last node
pub record Layer (m : Map) (g : Between) (c : ℕ) (old new : List ℕ) (w : Ways) : Type 0 where
  pub over : Layers m g c (c + 1) old new
  pub ways : (seen : Place → Bool) → Seen m g seen → Holds g (prior seen c) old → w ≡ ways_of seen (place g.x.steps g.y.steps c)

-- the ways into the last node of the last of n layers
abbrev pub WaysAfter : Map → Between → ℕ → Ways → Type 0
WaysAfter m g n w = 0 < n → WaysTo m g (place g.x.steps g.y.steps (n - 1)) w

-- sixteen numbers for a layer's faulty nodes, none of them beyond a row's width, and sixteen for what is seen
pub record Rows (g : Between) (faulty rows : List ℕ) : Type 0 where
  pub small : Inside largest (far g)
  pub given : length faulty ≡ 16
  pub held : length rows ≡ 16
  pub within : (b : ℕ) → b ≤ g.y.steps → get_or faulty b 0 < 2 ^ (g.x.steps + 1)

-- the rows after n layers say what is seen in the last of them, whatever is seen
abbrev pub After : Map → Between → ℕ → List ℕ → Type 0
After m g n rows = (seen : Place → Bool) → Seen m g seen → Holds g (prior seen n) rows

-- the rows before the first layer: only the corner is seen
abbrev pub seed : List ℕ
seed = set (replicate 16 0) 0 1

-- bit a of row b, or that of the node x steps nearer to the corner, y rows back, if a step is left
abbrev pub seen_at : List ℕ → ℕ → ℕ → ℕ → ℕ → ℕ → Bool
seen_at rows left a x b y = ltb 0 left && bit_at (get_or rows (b - y) 0) (a - x)

-- ---- a route's ends, and the offered set

-- a map that was checked, and the two ends of a route in it
pub record Ends (S : Sizes) (cells : List ℕ) (p e : Place) : Type 0 where
  pub sized : InRange S
  pub whole : length cells ≡ nodes S
  pub good : Good S cells
  pub start_in : Inside S p
  pub end_in : Inside S e
  pub end_may : T (may_end (cell_at (map_of S cells) e))

-- the two ends of a route on a map
pub record EndsOn (m : Map) (p e : Place) : Type 0 where
  pub start_in : Inside m.sizes p
  pub end_in : Inside m.sizes e
  pub end_may : T (may_end (cell_at m e))

-- the bit of a preferred direction, if the way is seen
abbrev pub flag_of : Option ℕ → ℕ → ℕ
flag_of (Some j) seen = seen * 2 ^ j
flag_of None seen = 0
