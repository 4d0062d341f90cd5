-- `mesh::Place::step` meets its contract: the direction's own axis moves, and the other two stay. Assumes nothing.
use mathlib.Core.Path.{◌≡◌, ◌∙◌}
use mathlib.Core.Bool.{Bool, true, false}
use Prim.Native.Nat.{ℕ}
use native.Mathlib.Omega.{arith}
use Rattle.mesh.specs.Mesh.{X, Y, Z, Inside}
use Rattle.mesh.specs.Steps.{step_of, moved, together, next, along}
use Rattle.mesh.specs.declared.Sizes.{Sizes}
use Rattle.mesh.specs.declared.Place.{Place}
use Rattle.mesh.proofs.Steps.{next_x, next_y, next_z}
use Rattle.std.specs.Prelude.{Some, Option}
use Rattle.mesh.proofs.Place.step.Goals as goal

-- for the direction that an arm knows, and what its calls found
module _ (S : Sizes) (p : Place) (i : Inside S p) (down : Bool) (j : ℕ) (m : Option ℕ) (r : Option Place) where
  arm_x : j ≡ along X down → m ≡ moved p.x (step_of (along X down) 0) S.w → r ≡ together m (Some p.y) (Some p.z) → r ≡ next S p j
  arm_x e f g = g ∙ (rw (f, e) (next_x S p i down))

  arm_y : j ≡ along Y down → m ≡ moved p.y (step_of (along Y down) 1) S.h → r ≡ together (Some p.x) m (Some p.z) → r ≡ next S p j
  arm_y e f g = g ∙ (rw (f, e) (next_y S p i down))

  arm_z : j ≡ along Z down → m ≡ moved p.z (step_of (along Z down) 2) S.d → r ≡ together (Some p.x) (Some p.y) m → r ≡ next S p j
  arm_z e f g = g ∙ (rw (f, e) (next_z S p i down))

pub returns-in_default : goal.returns-in_default
returns-in_default c =
    let e : c.args.direction ≡ 5 = omega (arith, c.in_default, c.requires.0) in
    arm_z _ _ c.requires.2 true _ _ _ e c.shift-in_default.ensures c.together-in_default.ensures

pub returns-in-0 : goal.returns-in-0
returns-in-0 c = arm_x _ _ c.requires.2 false _ _ _ c.in-0.is c.shift.ensures c.together.ensures

pub returns-in-1 : goal.returns-in-1
returns-in-1 c = arm_x _ _ c.requires.2 true _ _ _ c.in-1.is c.shift-in-1.ensures c.together-in-1.ensures

pub returns-in-2 : goal.returns-in-2
returns-in-2 c = arm_y _ _ c.requires.2 false _ _ _ c.in-2.is c.shift-in-2.ensures c.together-in-2.ensures

pub returns-in-3 : goal.returns-in-3
returns-in-3 c = arm_y _ _ c.requires.2 true _ _ _ c.in-3.is c.shift-in-3.ensures c.together-in-3.ensures

pub returns-in-4 : goal.returns-in-4
returns-in-4 c = arm_z _ _ c.requires.2 false _ _ _ c.in-4.is c.shift-in-4.ensures c.together-in-4.ensures
