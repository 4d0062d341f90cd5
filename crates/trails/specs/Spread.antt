-- A sweep with a byte for each node: what it leaves in the bytes. No promise is stated in these words. Assumes nothing.
use Rattle.std.specs.Prelude.{Bool, List, ◌≡◌, ℕ, ◌<◌, ◌≤◌, length, get_or}
use Rattle.mesh.specs.Tools.{bit}
use Rattle.mesh.specs.Mesh.{nodes, number}
use Rattle.mesh.specs.Cells.{Map}
use Rattle.mesh.specs.declared.Sizes.{Sizes}
use Rattle.mesh.specs.declared.Place.{Place}
use Rattle.rows.specs.Box.{reach, Within}
use Rattle.sweeps.specs.Sweep.{Seen}
use Rattle.rows.specs.declared.Between.{Between}

-- the first n bytes are 0 or 1
abbrev pub Bits : List ℕ → ℕ → Type 0
Bits bytes n = (k : ℕ) → k < n → get_or bytes k 0 ≤ 1

-- no byte is 1 yet
abbrev pub Blank : Sizes → List ℕ → Type 0
Blank S bytes = (k : ℕ) → k < nodes S → get_or bytes k 0 ≡ 0

-- the first n layers, each at its own nodes, and no other byte
pub record Spread (m : Map) (g : Between) (n : ℕ) (old new : List ℕ) : Type 0 where
  pub at : (seen : Place → Bool) → Seen m g seen → (t : Place) → Within g t → t.z < n → get_or new (number m.sizes (reach g t)) 0 ≡ bit (seen t)
  pub kept : (i : ℕ) → ((t : Place) → Within g t → t.z < n → i ≡ number m.sizes (reach g t) → ⊥) → get_or new i 0 ≡ get_or old i 0
  pub size : length new ≡ length old
