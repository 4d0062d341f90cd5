-- `mesh::Sizes::has` meets its contract: its test is the definition's. Assumes nothing.
use mathlib.Core.Path.{refl}
use Rattle.mesh.specs.Mesh.{inside}
use Rattle.mesh.proofs.Sizes.has.Goals as goal

pub returns : goal.returns
unfolding inside
returns c = refl
