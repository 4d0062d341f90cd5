-- `picture::drawing::rows` meets its contract. Assumes nothing.
use mathlib.Core.Path.{◌≡◌}
use mathlib.Core.List.{List}
use Prim.Native.Nat.{ℕ}
use native.Mathlib.Omega.{arith}
use Rattle.std.proofs.Common.{rules}
use lib.ListN.{length}
use Rattle.mesh.specs.Mesh.{nodes}
use Rattle.mesh.proofs.Numbers.{nodes_le, number_lt}
use Rattle.rows.specs.Box.{row_run, reach}
use Rattle.rows.proofs.Box.{widen, reach_in, row_on}
use Rattle.rows.specs.declared.Run.{Run}
use Rattle.text.proofs.Adding.{added_no_piece, added_piece, added_as}
use Rattle.picture.specs.Picture.{row_text, row_in}
use Rattle.picture.specs.Room.{row_room}
use Rattle.picture.proofs.Drawn.{narrow}
use Rattle.picture.proofs.drawing.rows.Goals as goal

row_same : (drawn : List ℕ) {y y' : ℕ} {r r' : Run} → y ≡ y' → r ≡ r' → row_text drawn y r ≡ row_text drawn y' r'
row_same drawn e f = rw (e, f)

pub loop-b-init : goal.loop-b-init
loop-b-init g c =
    let a = c.args in
    added_no_piece (row_in a.s a.drawn.now a.g a.c) row_room a.page.now

pub say_row-requires : goal.say_row-requires
say_row-requires g c =
    let a = c.args in
    let d = c.requires.0 in
    let r = row_run a.s a.g c.loop-b.b a.c in
    let on = row_on a.s a.g d.held (nodes a.s) c.loop-b.b a.c (omega arith) c.requires.1
    (λ t w. number_lt a.s (reach a.g t) (reach_in a.s a.g t d.held w)) in
    rw c.row.ensures
    (search rules, (widen r _ on 4096 (nodes_le a.s d.sized), widen r _ on (length a.drawn.now) (omega (arith, d.whole)), (narrow d).x_in, omega (arith, (narrow d).y_in)))

pub loop-b-preserved : goal.loop-b-preserved
loop-b-preserved g c =
    let a = c.args in
    added_piece (row_in a.s a.drawn.now a.g a.c) row_room c.loop-b.b c.loop-b.invariant
    (added_as (row_same a.drawn.now c.at.ensures c.row.ensures) c.say_row.ensures)
