-- `logfile::reading::past` meets its contract. Assumes nothing.
use mathlib.Core.Path.{ap, ◌∙◌}
use Prim.Native.Nat.{ℕ, ◌-◌}
use native.Mathlib.Omega.{arith}
use lib.ListN.{length, drop, length-drop}
use lib.Seq.{take_all}
use Rattle.logfile.proofs.reading.past.Goals as goal

pub returns : goal.returns
returns c =
    let text = c.args.text.now in
    take_all (length text - c.before-n.result) (drop c.before-n.result text) (omega (arith, length-drop c.before-n.result text))
    ∙ ap (λ (k : ℕ). drop k text) c.before-n.ensures.0
