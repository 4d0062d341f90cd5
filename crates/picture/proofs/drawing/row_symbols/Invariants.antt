-- `picture::drawing::row_symbols` meets its contract. Assumes nothing.
use Prim.Native.Nat.{◌*◌}
use Rattle.text.specs.Text.{pieces, Added}
use Rattle.picture.specs.Picture.{symbol_at}
use Rattle.picture.proofs.drawing.row_symbols.Given as goal

abbrev pub invariant-loop-a : goal.invariant-loop-a
invariant-loop-a g l = Added l.initial.page (pieces (symbol_at l.drawn l.row) l.a) (3 * l.a) l.page
