-- The table of a route: layer after layer, and the ways that are read from it. Assumes nothing.
use mathlib.Core.Path.{◌≡◌, refl, sym, ap, ◌∙◌, subst}
use mathlib.Core.Logic.{inl, inr}
use mathlib.Core.Bool.{Bool}
use mathlib.Core.List.{List}
use Prim.Native.Nat.{ℕ, ◌+◌, ◌-◌, ◌*◌, ◌<◌, ◌≤◌}
use native.Mathlib.Nat.{eq-or-lt_of_le}
use native.Mathlib.Numerals.{add-one}
use native.Mathlib.Omega.{arith}
use lib.ListN.{get_or}
use Rattle.mesh.specs.Mesh.{X, Y, Z, place}
use Rattle.mesh.specs.Cells.{Map}
use Rattle.mesh.specs.Fill.{Filled}
use Rattle.mesh.specs.declared.Place.{Place}
use Rattle.paths.proofs.Differences.{place_eq}
use Rattle.rows.specs.Row.{bit_at}
use Rattle.rows.specs.Box.{Within}
use Rattle.rows.specs.declared.Between.{Between}
use Rattle.sweeps.specs.Sweep.{nearer, ways_of, Seen, After}
use Rattle.sweeps.proofs.RowSweep.{way_seen}
use Rattle.trails.specs.Table.{Table, ways_in}

pub table_none : (m : Map) (g : Between) (table : List ℕ) → Table m g 0 table
table_none m g table seen Q t w l = absurd (omega arith)

-- sixteen rows more
pub table_more : (m : Map) (g : Between) → g.y.steps < 16 → (c : ℕ) (rows old new : List ℕ) → After m g (c + 1) rows
    → Filled (λ b. 16 * c + b) (λ b. get_or rows b 0) old new 16 → Table m g c old → Table m g (c + 1) new
table_more m g h c rows old new A F K seen Q t w l = elim (eq-or-lt_of_le (le_of l)) [
  | inl q ↦
      subst (λ (u : Place). bit_at (get_or new (16 * u.z + u.y) 0) u.x ≡ seen u) (sym (place_eq t (place t.x t.y c) refl refl q))
      (ap (λ (r : ℕ). bit_at r t.x) (F.at t.y (omega (arith, w.y_le))) ∙ A seen Q t.x t.y w.x_le w.y_le ∙ rw (add-one c))
  | inr k ↦ ap (λ (r : ℕ). bit_at r t.x) (F.kept (16 * t.z + t.y) (λ b l q. omega (arith, w.y_le))) ∙ K seen Q t w k
]
  where
    le_of : {i n : ℕ} → i < n + 1 → i ≤ n
    le_of h = omega arith

-- the ways into a node are those that stand in the table
pub ways_in_lem : (m : Map) (g : Between) (n : ℕ) (table : List ℕ) → Table m g n table → (seen : Place → Bool) → Seen m g seen
    → (t : Place) → Within g t → t.z < n → ways_in table t ≡ ways_of seen t
ways_in_lem m g n table K seen Q t w l = rw (
  way_seen table t.x t.x 1 (16 * t.z + t.y) 0 (t.x - 1) (16 * t.z + t.y) (seen (nearer t X))
      (λ h. (refl, omega arith, K seen Q (nearer t X) (omega (arith, w)) l)),
  way_seen table t.y t.x 0 (16 * t.z + t.y) 1 t.x (16 * t.z + (t.y - 1)) (seen (nearer t Y))
      (λ h. (omega arith, omega arith, K seen Q (nearer t Y) (omega (arith, w)) l)),
  way_seen table t.z t.x 0 (16 * t.z + t.y) 16 t.x (16 * (t.z - 1) + t.y) (seen (nearer t Z))
      (λ h. (omega arith, omega arith, K seen Q (nearer t Z) (omega (arith, w)) (omega arith))),
)
