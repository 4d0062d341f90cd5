-- `picture::drawing::row_symbols` meets its contract. Assumes nothing.
use mathlib.Core.Path.{ap}
use mathlib.Core.List.{[], ◌∷◌, ◌++◌}
use Prim.Native.Nat.{ℕ}
use lib.ListN.{get_or}
use Rattle.text.specs.Text.{ascii}
use Rattle.text.proofs.Adding.{added_no_piece, added_piece, added_as}
use Rattle.picture.specs.Picture.{symbol_at}
use Rattle.picture.proofs.drawing.row_symbols.Goals as goal

pub loop-a-init : goal.loop-a-init
loop-a-init g c = added_no_piece (symbol_at c.args.drawn.now c.args.row) 3 c.args.page.now

pub loop-a-preserved : goal.loop-a-preserved
loop-a-preserved g c =
    let drawn = c.args.drawn.now in
    let symbol = ap (λ (n : ℕ). ascii "  " ++ get_or drawn n 0 ∷ []) c.at.ensures in
    added_piece (symbol_at drawn c.args.row) 3 c.loop-a.a c.loop-a.invariant (added_as symbol c.say.ensures)
