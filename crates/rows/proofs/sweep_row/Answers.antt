-- `rows::sweep_row` meets its contract: what it adds is below 2 ^ 16, and the carries are the sweep. Assumes nothing.
use Prim.Native.Nat.{◌<◌}
use borrow.Author.Rules.{rules}
use Rattle.rows.proofs.Carries.{carries_fit, sweeps}
use Rattle.rows.proofs.sweep_row.Goals as goal
use Rattle.rows.proofs.sweep_row.Goals.{Start}

narrow : (c : Start) → c.args.pass < 65536
narrow c = search rules

pub overflow_cast-result : goal.overflow_cast-result
overflow_cast-result c = record { fits = carries_fit _ _ (narrow (goal.at.overflow_cast-result c).Start) _ }

pub returns : goal.returns
returns c = let a = c.args in sweeps a.pass a.from a.link
