-- `mesh::Sizes::nodes` meets its contract: the product is at most 4,096. Assumes nothing.
use mathlib.Core.Path.{refl}
use native.Mathlib.Nat.{mul-le-mul}
use native.Mathlib.Omega.{arith}
use Rattle.mesh.proofs.Numbers.{nodes_le}
use Rattle.mesh.proofs.Sizes.nodes.Goals as goal

pub overflow_mul-result : goal.overflow_mul-result
overflow_mul-result c = let s = c.before in omega (arith, mul-le-mul s.requires.h_hi s.requires.d_hi)

pub overflow_mul-result-2 : goal.overflow_mul-result-2
overflow_mul-result-2 c = let s = c.before.before in omega (arith, nodes_le s.args.self s.requires)

pub returns : goal.returns
returns c = let s = c.before.before in (refl, nodes_le s.args.self s.requires)
