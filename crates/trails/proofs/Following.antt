-- The way through the table stays in the box. Assumes nothing.
use mathlib.Core.Bool.{Bool, true, false, cond}
use mathlib.Core.List.{List}
use Prim.Native.Nat.{ℕ, zero, suc}
use native.Mathlib.Omega.{arith}
use Rattle.mesh.specs.Tools.{one}
use Rattle.mesh.specs.Mesh.{X, Y, Z}
use Rattle.mesh.specs.declared.Place.{Place}
use Rattle.rows.specs.Box.{Within}
use Rattle.sweeps.specs.Sweep.{nearer}
use Rattle.sweeps.specs.declared.Ways.{Ways}
use Rattle.rows.specs.declared.Between.{Between}
use Rattle.trails.specs.Table.{towards, ways_in, trail}

pub towards_within : (g : Between) (w : Ways) (t : Place) → Within g t → Within g (towards w t)
towards_within g w t i = split (one w.x) (one w.y) (one w.z)
  where
    split : (a b c : Bool) → Within g (cond a (nearer t X) (cond b (nearer t Y) (cond c (nearer t Z) t)))
    split true b c = record { x_le = omega (arith, i.x_le); y_le = i.y_le; z_le = i.z_le }
    split false true c = record { x_le = i.x_le; y_le = omega (arith, i.y_le); z_le = i.z_le }
    split false false true = record { x_le = i.x_le; y_le = i.y_le; z_le = omega (arith, i.z_le) }
    split false false false = i

pub trail_within : (g : Between) (table : List ℕ) (i : ℕ) → Within g (trail g table i)
trail_within g table zero = record { x_le = omega arith; y_le = omega arith; z_le = omega arith }
trail_within g table (suc i) = towards_within g (ways_in table (trail g table i)) (trail g table i) (trail_within g table i)
