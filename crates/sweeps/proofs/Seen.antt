-- What is seen in a layer, from what is seen in the one before it; and the ways into a node, which are 0 or 1. Assumes nothing.
use mathlib.Core.Path.{◌≡◌, refl, ap, ◌∙◌}
use mathlib.Core.Bool.{Bool, ◌&&◌, ◌||◌}
use Prim.Native.Nat.{ℕ, zero, suc, ◌+◌, ◌-◌, ◌≤◌}
use native.Mathlib.Omega.{arith}
use lib.Dec.{ltb}
use borrow.Author.Tests.{lt-ltb, ne_eqb}
use Rattle.mesh.specs.Mesh.{X, Y, Z, place}
use Rattle.mesh.specs.Cells.{Map, cell_at, may_pass}
use Rattle.mesh.proofs.Bits.{bit_le}
use Rattle.mesh.specs.declared.Place.{Place}
use Rattle.rows.specs.Box.{reach}
use Rattle.rows.specs.declared.Between.{Between}
use Rattle.sweeps.specs.Sweep.{way_in, ways_of, Seen, prior}
use Rattle.sweeps.specs.declared.Ways.{Ways}

-- what is entered from the layer before
prior_is : (seen : Place → Bool) (a b c : ℕ) → ((a + b) + c ≡ 0 → ⊥) → prior seen c a b ≡ (ltb 0 c && seen (place a b (c - 1)))
prior_is seen a b (suc k) o = let e : suc k - 1 ≡ k = omega arith in rw (lt-ltb 0 (suc k) (omega arith), e)
prior_is seen zero zero zero o = absurd (o refl)
prior_is seen zero (suc b) zero o = ne_eqb (suc b) 0 (λ e. omega arith)
prior_is seen (suc a) b zero o = rw (ne_eqb (suc a) 0 (λ e. omega arith))

pub next_seen : (m : Map) (g : Between) (seen : Place → Bool) → Seen m g seen → (c : ℕ) → c ≤ g.z.steps
    → (a b : ℕ) → a ≤ g.x.steps → b ≤ g.y.steps → ((a + b) + c ≡ 0 → ⊥) → seen (place a b c)
    ≡ may_pass (cell_at m (reach g (place a b c))) && ((ltb 0 a && seen (place (a - 1) b c)) || (ltb 0 b && seen (place a (b - 1) c)) || prior seen c a b)
next_seen m g seen Q c hc a b la lb off =
    Q.later (place a b c) (record { x_le = la; y_le = lb; z_le = hc })
    (λ e. off (omega (arith, ap (λ (t : Place). t.x) e, ap (λ (t : Place). t.y) e, ap (λ (t : Place). t.z) e)))
    ∙ rw (prior_is seen a b c off)

pub ways_le : (w : Ways) (seen : Place → Bool) (t : Place) → w ≡ ways_of seen t → (w.x ≤ 1) × (w.y ≤ 1) × (w.z ≤ 1)
ways_le w seen t e = rw e (bit_le (way_in seen t X), bit_le (way_in seen t Y), bit_le (way_in seen t Z))
