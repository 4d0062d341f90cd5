-- `rows::bytes::put` meets its contract. Assumes nothing.
use mathlib.Core.Path.{◌∙◌}
use native.Mathlib.Omega.{arith}
use Rattle.rows.proofs.Words.{put_over}
use Rattle.rows.proofs.bytes.put.Goals as goal

pub returns : goal.returns
returns c = let a = c.args in put_over a.x a.p _ a.out.now _ c.requires (omega arith) (c.copy_from_slice.ensures.after ∙ c.to_le_bytes.ensures)
