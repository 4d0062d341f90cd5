-- `rounds::links::come` meets its contract: where the word is left out it would change nothing. Assumes nothing.
use mathlib.Core.Path.{sym, ◌∙◌}
use Prim.Native.Nat.{◌/◌, ◌%◌}
use Rattle.rounds.proofs.Coming.{nothing_new}
use Rattle.rounds.proofs.links.come.Goals as goal

pub returns-then-not-brings : goal.returns-then-not-brings
returns-then-not-brings c =
    let a = c.args in
    sym (nothing_new a.s a.o a.state.now c.requires.0 (a.link / 6) (a.link % 6) a.word
    (sym c.brings.ensures ∙ c.if-not-brings.true))
