-- `rows::unpack::few` meets its contract. Assumes nothing.
use native.Mathlib.Omega.{arith}
use Rattle.rows.proofs.Unpacks.{few_more}
use Rattle.rows.proofs.unpack.few.Goals as goal

pub loop-k-preserved : goal.loop-k-preserved
loop-k-preserved c = few_more _ _ _ _ _ _ _ c.requires.1 _ _ (omega arith) c.loop-k.invariant c.onwards.ensures
