-- `picture::symbols::draw` meets its contract: what is reached, and then the symbols over it. Assumes nothing.
use mathlib.Core.Path.{◌∙◌}
use native.Mathlib.Omega.{arith}
use Rattle.routes.proofs.Ends.{ends_granted}
use Rattle.picture.proofs.Drawn.{few, drawn_front}
use Rattle.picture.proofs.symbols.draw.Goals as goal

pub draw_over-requires : goal.draw_over-requires
draw_over-requires c =
    let a = c.args in
    omega (
      arith,
      few a.s a.cells.now a.start a.end c.requires.0,
      (ends_granted a.s a.cells.now a.start a.end c.requires.0).whole,
      c.reached.auto.out,
      c.requires.1,
    )

pub returns : goal.returns
returns c =
    let a = c.args in
    drawn_front a.s a.cells.now a.start a.end c.requires.0 a.drawn.now c.requires.1
    c.reached.new.out c.draw_over.new.drawn c.reached.ensures.out_after
    (c.reached.auto.out ∙ c.requires.1) c.draw_over.ensures
