-- `logfile::reading::up_to` meets its contract. Assumes nothing.
use mathlib.Core.Path.{sym, ap}
use Prim.Native.Nat.{ℕ}
use lib.ListN.{take}
use lib.Seq.{length-take-le}
use Rattle.logfile.proofs.reading.up_to.Goals as goal

pub slice_bounds-result-end : goal.slice_bounds-result-end
slice_bounds-result-end c =
    sym (length-take-le c.before-n.result c.args.text.now c.before-n.ensures.1)

pub returns : goal.returns
returns c = ap (λ (k : ℕ). take k c.args.text.now) c.before.before-n.ensures.0
