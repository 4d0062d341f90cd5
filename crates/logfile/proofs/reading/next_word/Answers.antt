-- `logfile::reading::next_word` meets its contract. Assumes nothing.
use mathlib.Core.Path.{ap, ◌∙◌}
use Rattle.logfile.specs.Log.{past}
use Rattle.logfile.specs.declared.Stop.TheVariants.{Word}
use Rattle.logfile.proofs.reading.next_word.Goals as goal

pub returns : goal.returns
returns c = c.past-2.ensures ∙ ap (past Word) c.past.ensures
