-- Layers of the sweep have one outcome: in every box there is something that is seen (`sees`), and it fixes the bits of the nodes, and the ways. Assumes nothing.
use mathlib.Core.Path.{◌≡◌, refl, sym, ◌∙◌}
use mathlib.Core.Bool.{Bool, true, false, ◌&&◌, ◌||◌}
use mathlib.Core.List.{List}
use Prim.Native.Nat.{ℕ, zero, suc, ◌-◌, ◌≤◌}
use native.Mathlib.Omega.{arith}
use borrow.Author.Tests.{lt-ltb}
use lib.ListN.{get_or}
use lib.Dec.{ltb}
use Rattle.mesh.specs.Mesh.{place}
use Rattle.mesh.specs.Cells.{Map, cell_at, may_pass}
use Rattle.mesh.specs.declared.Place.{Place}
use Rattle.rows.specs.Row.{bit_at}
use Rattle.rows.specs.Box.{reach}
use Rattle.rows.specs.declared.Between.{Between}
use Rattle.sweeps.specs.Sweep.{Seen, prior, Holds, Layers, Layer}
use Rattle.sweeps.specs.declared.Ways.{Ways}

-- a row from its first node on: each may be passed and is entered from the one before it, or from the rows before on Y and Z
abbrev along : (ℕ → Bool) → (ℕ → Bool) → (ℕ → Bool) → Bool → ℕ → Bool
along may y z start zero = start
along may y z start (suc a) = may (suc a) && (along may y z start a || y (suc a) || z (suc a))

less : (n : ℕ) → suc n - 1 ≡ n
less n = omega arith

some : (n : ℕ) → ltb 0 (suc n) ≡ true
some n = lt-ltb 0 (suc n) (omega arith)

module _ (m : Map) (g : Between) where
  abbrev may : ℕ → ℕ → ℕ → Bool
  may c b a = may_pass (cell_at m (reach g (place a b c)))

  -- row after row, over the layer z; layer after layer
  abbrev rows : ℕ → (ℕ → ℕ → Bool) → Bool → ℕ → ℕ → Bool
  rows c z start zero = along (may c 0) (λ a. false) (z 0) start
  rows c z start (suc b) = along (may c (suc b)) (rows c z start b) (z (suc b)) (may c (suc b) 0 && (rows c z start b 0 || z (suc b) 0))

  abbrev layers : ℕ → ℕ → ℕ → Bool
  layers zero = rows 0 (λ b a. false) true
  layers (suc c) = rows (suc c) (layers c) (may (suc c) 0 0 && layers c 0 0)

  abbrev pub sees : Place → Bool
  sees t = layers t.z t.y t.x

  entered : (c b a : ℕ) → (place a b c ≡ place 0 0 0 → ⊥) → layers c b a
      ≡ may c b a && ((ltb 0 a && layers c b (a - 1)) || (ltb 0 b && layers c (b - 1) a) || (ltb 0 c && layers (c - 1) b a))
  entered zero zero zero off = absurd (off refl)
  entered zero zero (suc a) off = rw (some a, less a)
  entered zero (suc b) zero off = rw (some b, less b)
  entered zero (suc b) (suc a) off = rw (some a, some b, less a, less b)
  entered (suc c) zero zero off = rw (some c, less c)
  entered (suc c) zero (suc a) off = rw (some a, some c, less a, less c)
  entered (suc c) (suc b) zero off = rw (some b, some c, less b, less c)
  entered (suc c) (suc b) (suc a) off = rw (some a, some b, some c, less a, less b, less c)

  pub sees_so : Seen m g sees
  sees_so = record { corner = refl; later = λ t w off. entered t.z t.y t.x off }

  pub layers_once : (i n : ℕ) (old l r : List ℕ) → Holds g (prior sees i) old → Layers m g i n old l → Layers m g i n old r
      → (a b : ℕ) → a ≤ g.x.steps → b ≤ g.y.steps → bit_at (get_or l b 0) a ≡ bit_at (get_or r b 0) a
  layers_once i n old l r H L R a b la lb = L.holds sees sees_so H a b la lb ∙ sym (R.holds sees sees_so H a b la lb)

  pub ways_once : (c : ℕ) (old l r : List ℕ) (v w : Ways) → Holds g (prior sees c) old → Layer m g c old l v → Layer m g c old r w → v ≡ w
  ways_once c old l r v w H L R = L.ways sees sees_so H ∙ sym (R.ways sees sees_so H)
