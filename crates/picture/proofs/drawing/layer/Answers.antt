-- `picture::drawing::layer` meets its contract. Assumes nothing.
use mathlib.Core.Path.{ap}
use mathlib.Core.List.{◌++◌}
use Prim.Native.Nat.{ℕ, ◌+◌}
use Rattle.text.specs.Text.{pieces}
use Rattle.text.proofs.Adding.{added_then, added_as}
use Rattle.picture.specs.Picture.{row_in, layer_head, layer_text}
use Rattle.picture.proofs.drawing.layer.Goals as goal

pub returns : goal.returns
unfolding layer_text
returns g c =
    let a = c.args in
    let rows = pieces (row_in a.s a.drawn.now a.g a.c) (a.g.y.steps + 1) in
    added_as (ap (λ (n : ℕ). layer_head n a.g.x ++ rows) c.at.ensures) (added_then c.layer_head.ensures c.rows.ensures)
