-- `rows::bytes::word` meets its contract. Assumes nothing.
use mathlib.Core.Path.{◌∙◌}
use native.Mathlib.Omega.{arith}
use Rattle.rows.proofs.Words.{word_is}
use Rattle.rows.proofs.bytes.word.Goals as goal

pub returns : goal.returns
returns c =
    let a = c.args in
    let part = (rw c.unwrap.ensures at c.try_into.ensures).1 in
    c.from_le_bytes.ensures ∙ word_is a.bytes.now _ a.p _ (omega arith) part.same
