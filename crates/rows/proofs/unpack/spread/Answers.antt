-- `rows::unpack::spread` meets its contract. Assumes nothing.
use Rattle.rows.proofs.Spread.{spread_up, spread_down}
use Rattle.rows.proofs.unpack.spread.Goals.{then-down, else-down}
use Rattle.rows.proofs.unpack.spread.Goals as goal

pub returns : goal.returns
returns c = elim c.if-down.branch [
  | then-down w ↦ rw (w.mask-is, w.if-down.true) (spread_down c.args.bits c.requires)
  | else-down w ↦ rw (w.mask-is, w.if-down.false) (spread_up c.args.bits c.requires)
]
