-- `mapfile::reader::cells_in` meets its contract. Assumes nothing.
use mathlib.Core.Path.{◌≡◌, ap}
use Prim.Native.Nat.{ℕ, ◌+◌, ◌-◌}
use native.Mathlib.Omega.{arith}
use lib.ListN.{length, take, drop}
use Rattle.mapfile.proofs.reader.cells_in.Goals as goal

pub returns : goal.returns
returns c =
    let a = c.args in
    let start = length a.file.now - (a.n + 12) in
    let e : start + a.n - start ≡ a.n = omega arith in
    ap (λ (k : ℕ). take k (drop start a.file.now)) e
