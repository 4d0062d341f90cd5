-- `mesh::Sizes::in_range` meets its contract: its test is the definition's. Assumes nothing.
use mathlib.Core.Path.{refl}
use Rattle.mesh.specs.Mesh.{in_range}
use Rattle.mesh.proofs.Sizes.in_range.Goals as goal

pub returns : goal.returns
unfolding in_range
returns c = refl
