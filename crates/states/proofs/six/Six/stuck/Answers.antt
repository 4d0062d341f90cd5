-- `states::six::Six::stuck` meets its contract: the bytes ahead all block where each reaches 8. Assumes nothing.
use mathlib.Core.Path.{◌≡◌, refl, ap, ◌∙◌}
use mathlib.Core.Bool.{Bool, true, false}
use Prim.Native.Nat.{◌≤◌}
use native.Mathlib.Omega.{arith}
use mir.Val.{bool_byte}
use Rattle.mesh.specs.Tools.{bit}
use Rattle.states.proofs.Beside.{stuck_is}
use Rattle.states.proofs.six.Six.stuck.Goals as goal

bit_is : (t : Bool) → bool_byte t ≡ bit t
bit_is true = refl
bit_is false = refl

bit_low : (t : Bool) → bool_byte t ≤ 1
bit_low true = omega arith
bit_low false = omega arith

pub returns : goal.returns
returns c =
    let a = c.args in
    let here = c.ahead-here in
    let asks = stuck_is a.s c.requires.0 a.o a.part c.requires.1 in
    (λ h b e. bit_is _ ∙ ap bit (asks h b a.self.bytes here.result.bytes e here.ensures.0), bit_low _)
