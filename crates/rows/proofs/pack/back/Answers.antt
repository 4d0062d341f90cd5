-- `rows::pack::back` meets its contract. Assumes nothing.
use mathlib.Core.Path.{◌∙◌}
use Prim.Native.Nat.{◌-◌}
use native.Mathlib.Nat.{sub-zero}
use lib.ListN.{get_or}
use Rattle.rows.proofs.Words.{named}
use Rattle.rows.proofs.pack.back.Goals as goal

pub returns : goal.returns
returns c = let a = c.args in c.from_le_bytes.ensures ∙ named (λ k. get_or a.cells.now (a.from - k) 0) (get_or a.cells.now a.from 0) (rw sub-zero)
