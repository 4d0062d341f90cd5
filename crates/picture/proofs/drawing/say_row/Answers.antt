-- `picture::drawing::say_row` meets its contract. Assumes nothing.
use mathlib.Core.Path.{ap}
use mathlib.Core.List.{[], ◌∷◌}
use Prim.Native.Nat.{ℕ}
use Rattle.text.specs.Text.{ascii, told}
use Rattle.text.proofs.Adding.{added_then, added_as}
use Rattle.picture.specs.Picture.{row_text}
use Rattle.picture.proofs.drawing.say_row.Goals as goal

pub returns : goal.returns
unfolding row_text
returns g c =
    let from = c.args.row.from in
    added_then (added_then c.tell_wide.ensures c.row_symbols.ensures)
    (added_as (ap (λ (k : ℕ). told (ascii "   nodes % to %\n") (from ∷ k ∷ [])) c.at-last.ensures) c.tell.ensures)
