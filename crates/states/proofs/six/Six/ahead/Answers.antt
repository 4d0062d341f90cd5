-- `states::six::Six::ahead` meets its contract: an axis has its two directions side by side. Assumes nothing.
use mathlib.Core.Path.{◌∙◌}
use Rattle.states.proofs.Beside.{looks_six, looks_le}
use Rattle.states.proofs.six.Six.ahead.Goals as goal

pub returns : goal.returns
returns c =
    let a = c.args in
    let e = c.of.ensures ∙ looks_six a.s a.o _ _ c.deep.ensures.0 c.deep-2.ensures.0 in
    (e, rw e (looks_le a.s a.o))
