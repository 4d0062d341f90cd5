-- `sweeps::signed::hops` meets its contract: no size is above 15. Assumes nothing.
use mathlib.Core.Path.{◌≡◌, refl, ◌∙◌, ap}
use Prim.Native.Nat.{ℕ, ◌<◌}
use lib.IntN.{ℤ, nat_abs}
use lib.Signed.{mag}
use mir.Syntax.{w32}
use mir.Val.{to_z, of_z}
use native.Mathlib.Omega.{arith}
use Rattle.mesh.proofs.Whole.{back}
use Rattle.paths.specs.Differences.{hops}
use Rattle.paths.proofs.Differences.{hops_is}
use Rattle.sweeps.proofs.signed.hops.Goals as goal

-- a difference as the machine passes it on
sent : (n : ℕ) (z d : ℤ) → n ≡ nat_abs (to_z w32 (of_z w32 z)) → (z ≡ d) × (mag z < 16) → n ≡ nat_abs d
sent n z d e h = e ∙ ap nat_abs (back z (omega arith) ∙ h.0)

pub returns : goal.returns
unfolding hops
returns c =
    let a = c.args in
    rw (
      sent _ _ _ c.size.ensures.0 c.difference.ensures,
      sent _ _ _ c.size-2.ensures.0 c.difference-2.ensures,
      sent _ _ _ c.size-3.ensures.0 c.difference-3.ensures,
    ) (refl, omega (arith, hops_is a.p a.e))
