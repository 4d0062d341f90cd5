-- The sweep for one mark, layer by layer from the corner ahead, all of it in steps: what the functions of src/ leave in their rows and bytes. A node
-- is shut if it is faulty or stuck. No promise is stated in these words. Assumes nothing.
use Rattle.std.specs.Prelude.{Bool, false, cond, not, ◌&&◌, ◌||◌, List, ◌≡◌, ℕ, zero, suc, ◌+◌, ◌-◌, ◌*◌, ◌<◌, ◌≤◌, length, get_or, replicate, ltb}
use Rattle.mesh.specs.Tools.{bit}
use Rattle.mesh.specs.Mesh.{X, Y, Z, place, nodes, number, Inside}
use Rattle.mesh.specs.Steps.{runs_down}
use Rattle.mesh.specs.Cells.{Map, faulty, faulty_cell}
use Rattle.mesh.specs.Fill.{Filled}
use Rattle.rules.specs.Marks.{counted, stuck}
use Rattle.rows.specs.Row.{bit_at}
use Rattle.rows.specs.Box.{reach, Within}
use Rattle.mesh.specs.declared.Sizes.{Sizes}
use Rattle.mesh.specs.declared.Place.{Place}
use Rattle.rows.specs.declared.Run.{Run}
use Rattle.rows.specs.declared.Between.{Between}

-- an axis of n from its end ahead, where it runs down or up; all nodes, from the corner ahead
abbrev pub axis : Bool → ℕ → Run
axis down n = record { from = cond down 0 (n - 1); steps = n - 1; down = not down }

abbrev pub whole : Sizes → ℕ → Between
whole S o = record { x = axis (runs_down o X) S.w; y = axis (runs_down o Y) S.h; z = axis (runs_down o Z) S.d }

-- ---- rows of bits

-- what is shut in the layer before layer c: beyond the edge nothing, and all where Z does not count
abbrev pub prior : Map → (Place → Bool) → ℕ → ℕ → ℕ → Bool
prior m shut zero a b = not (counted m.sizes Z)
prior m shut (suc c) a b = shut (place a b c)

-- shut: faulty, or the node before it is shut on every axis that counts
abbrev pub Shuts : Map → Between → (Place → Bool) → Type 0
Shuts m g shut = (a b c : ℕ) → Within g (place a b c) → shut (place a b c)
    ≡ faulty m (reach g (place a b c)) || ((ltb 0 a && shut (place (a - 1) b c)) && (ltb 0 b && shut (place a (b - 1) c)) && prior m shut c a b)

-- the rows of one layer say what `f a b` says
abbrev pub Holds : Between → (ℕ → ℕ → Bool) → List ℕ → Type 0
Holds g f rows = (a b : ℕ) → a ≤ g.x.steps → b ≤ g.y.steps → bit_at (get_or rows b 0) a ≡ f a b

-- the rows before the first layer
abbrev pub beyond : Sizes → List ℕ
beyond S = replicate 16 (cond (counted S Z) 0 65535)

-- the row before row b; none before the first
abbrev pub row_before : List ℕ → ℕ → ℕ
row_before rows b = cond (ltb 0 b) (get_or rows (b - 1) 0) 0

-- the first n rows of layer c, over those of the layer before
pub record Over (m : Map) (g : Between) (c : ℕ) (old new : List ℕ) (n : ℕ) : Type 0 where
  pub at : (shut : Place → Bool) → Shuts m g shut → Holds g (prior m shut c) old
      → (a b : ℕ) → a ≤ g.x.steps → b < n → b ≤ g.y.steps → bit_at (get_or new b 0) a ≡ shut (place a b c)
  pub kept : (b : ℕ) → n ≤ b → get_or new b 0 ≡ get_or old b 0
  pub size : length new ≡ length old

-- the rows of layer c, where none of its nodes is stuck: the shut ones are faulty
abbrev pub NoneStuck : Map → Between → ℕ → List ℕ → Type 0
NoneStuck m g c rows = Holds g (λ a b. faulty m (reach g (place a b c))) rows

-- ---- bytes

-- in the first n layers v is added to the byte of each working node that is shut. To that of a faulty one it may be added; no other byte changes.
pub record Layers (m : Map) (g : Between) (shut : Place → Bool) (v : ℕ) (old new : List ℕ) (n : ℕ) : Type 0 where
  pub at : (t : Place) → Within g t → t.z < n → faulty m (reach g t) ≡ false
      → get_or new (number m.sizes (reach g t)) 0 ≡ get_or old (number m.sizes (reach g t)) 0 + v * bit (shut t)
  pub at_most : (t : Place) → Within g t → t.z < n → get_or new (number m.sizes (reach g t)) 0 ≤ get_or old (number m.sizes (reach g t)) 0 + v
  pub kept : (i : ℕ) → ((t : Place) → Within g t → t.z < n → i ≡ number m.sizes (reach g t) → ⊥) → get_or new i 0 ≡ get_or old i 0
  pub size : length new ≡ length old

-- v is added to the byte of each working node that is stuck. To that of a faulty one it may be added; no byte past the nodes changes.
pub record Swept (m : Map) (o v : ℕ) (old new : List ℕ) : Type 0 where
  pub at : (p : Place) → Inside m.sizes p → faulty m p ≡ false
      → get_or new (number m.sizes p) 0 ≡ get_or old (number m.sizes p) 0 + v * bit (stuck m o p)
  pub at_most : (k : ℕ) → get_or new k 0 ≤ get_or old k 0 + v
  pub kept : (k : ℕ) → nodes m.sizes ≤ k → get_or new k 0 ≡ get_or old k 0
  pub size : length new ≡ length old

-- the mark byte of a node, from what the sweeps left there: "1 faulty"
abbrev pub mark_of : ℕ → ℕ → ℕ
mark_of cell marks = cond (faulty_cell cell) 1 marks

abbrev pub Finished : List ℕ → List ℕ → List ℕ → ℕ → Type 0
Finished cells old new n = Filled (λ i. i) (λ i. mark_of (get_or cells i 0) (get_or old i 0)) old new n
