-- `report::reporting::octant_lines` meets its contract: the first o lines stand one after another. Assumes nothing.
use mathlib.Core.Path.{◌≡◌, ap}
use mathlib.Core.List.{◌++◌}
use Prim.Native.Nat.{ℕ, ◌+◌}
use native.Mathlib.Numerals.{add-one}
use Rattle.mesh.specs.Cells.{Map}
use Rattle.maps.specs.Shelf.{map_on}
use Rattle.text.proofs.Adding.{added_none, added_as, added_turn}
use Rattle.report.specs.Report.{octant_line, octant_lines, figures_of}
use Rattle.report.specs.Room.{line_room}
use Rattle.report.proofs.reporting.octant_lines.Goals as goal

one_more : (m : Map) (o : ℕ) → octant_lines m (o + 1) ≡ octant_lines m o ++ octant_line o (figures_of m o)
unfolding octant_lines
one_more m o = rw add-one

pub loop-o-init : goal.loop-o-init
unfolding octant_lines
loop-o-init g c = added_none c.args.page.now

pub loop-o-preserved : goal.loop-o-preserved
loop-o-preserved g c =
    let o = c.loop-o.o in
    added_turn line_room o (one_more (map_on c.args.shelf.now) o) c.loop-o.invariant
    (added_as (ap (octant_line o) c.figures.ensures) c.octant_line.ensures)
