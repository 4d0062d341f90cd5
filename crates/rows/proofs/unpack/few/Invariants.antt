-- `rows::unpack::few` meets its contract. Assumes nothing.
use Rattle.rows.specs.Bytes.{Added}
use Rattle.rows.proofs.unpack.few.Given as goal

abbrev pub invariant-loop-k : goal.invariant-loop-k
invariant-loop-k l = Added l.initial.out l.out l.down l.from l.k l.bits l.v
