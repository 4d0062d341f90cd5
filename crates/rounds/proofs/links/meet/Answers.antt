-- `rounds::links::meet` meets its contract: after the word has come once the state is sound still. Assumes nothing.
use mathlib.Core.Path.{subst⁻¹}
use Prim.Native.Nat.{◌/◌, ◌%◌}
use Rattle.rounds.specs.Links.{Fit}
use Rattle.rounds.proofs.Coming.{hear_fit}
use Rattle.rounds.proofs.links.meet.Goals as goal

pub come-requires-in-Twice : goal.come-requires-in-Twice
come-requires-in-Twice c =
    let a = c.args in
    let fit = hear_fit a.s a.o a.state.now c.requires.0 (a.link / 6) (a.link % 6) c.saying-word.result in
    (subst⁻¹ (Fit a.s a.o) c.come.ensures fit, c.requires.1)
