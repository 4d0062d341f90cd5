-- `rows::pack::few` meets its contract: each turn puts one node more in front. Assumes nothing.
use mathlib.Core.Path.{◌≡◌}
use Prim.Native.Nat.{◌+◌, ◌-◌}
use Rattle.rows.specs.Row.{packed, says}
use Rattle.rows.proofs.pack.few.Given as goal

abbrev pub invariant-loop-k : goal.invariant-loop-k
invariant-loop-k l = l.bits ≡ packed (λ i. says l.cells l.j l.down l.from (l.k + i)) (l.w - l.k)
