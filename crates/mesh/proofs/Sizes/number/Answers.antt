-- `mesh::Sizes::number` meets its contract: sums and products of numbers of at most 16 fit. Assumes nothing.
use mathlib.Core.Path.{refl}
use Prim.Native.Nat.{ℕ, ◌+◌, ◌*◌, ◌≤◌}
use native.Mathlib.Nat.{mul-le-mul}
use native.Mathlib.Omega.{arith}
use mir.Syntax.{w64}
use mir.Val.{Fits}
use Rattle.mesh.proofs.Numbers.{number_lt}
use Rattle.mesh.proofs.Sizes.number.Goals as goal

-- whichever the operands are, if none is above 16
product : {h z : ℕ} → h ≤ 16 → z ≤ 16 → Fits w64 (h * z)
product hh hz = omega (arith, mul-le-mul hh hz)

row : {y h z : ℕ} → y ≤ 16 → h ≤ 16 → z ≤ 16 → y + h * z ≤ 272
row hy hh hz = omega (arith, mul-le-mul hh hz)

row_fits : {y h z : ℕ} → y ≤ 16 → h ≤ 16 → z ≤ 16 → Fits w64 (y + h * z)
row_fits hy hh hz = omega (arith, row hy hh hz)

rows : {w y h z : ℕ} → w ≤ 16 → y ≤ 16 → h ≤ 16 → z ≤ 16 → Fits w64 (w * (y + h * z))
rows hw hy hh hz = omega (arith, mul-le-mul hw (row hy hh hz))

whole : {x w y h z : ℕ} → x ≤ 16 → w ≤ 16 → y ≤ 16 → h ≤ 16 → z ≤ 16 → Fits w64 (x + w * (y + h * z))
whole hx hw hy hh hz = omega (arith, mul-le-mul hw (row hy hh hz))

pub overflow_mul-result : goal.overflow_mul-result
overflow_mul-result c = product (omega arith) (omega arith)

pub overflow_add-result : goal.overflow_add-result
overflow_add-result c = row_fits (omega arith) (omega arith) (omega arith)

pub overflow_mul-result-2 : goal.overflow_mul-result-2
overflow_mul-result-2 c = rows (omega arith) (omega arith) (omega arith) (omega arith)

pub overflow_add-result-2 : goal.overflow_add-result-2
overflow_add-result-2 c = whole (omega arith) (omega arith) (omega arith) (omega arith) (omega arith)

pub returns : goal.returns
returns c = let s = c.before.before.before.before.before in (refl, number_lt s.args.self s.args.p s.requires.1)
