-- `states::six::Six::heard` meets its contract: the six bytes that follow a node's own. Assumes nothing.
use mathlib.Core.Path.{◌∙◌}
use Prim.Native.Nat.{◌+◌, ◌*◌}
use native.Mathlib.Nat.{add-zero}
use Rattle.talk.specs.State.{heard}
use Rattle.states.proofs.Packed.{six_is}
use Rattle.states.proofs.six.Six.heard.Goals as goal

pub returns : goal.returns
returns c =
    let a = c.args in
    let t = a.state.now in
    (c.of.ensures ∙ (rw (add-zero (7 * a.k + 1)) at (six_is (heard t a.k))), λ j. (c.type_inv.state (7 * a.k + 1 + j)).fits)
