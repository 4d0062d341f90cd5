-- `report::reporting::octant_lines` meets its contract: the first o lines stand one after another. Assumes nothing.
use Prim.Native.Nat.{◌*◌}
use Rattle.maps.specs.Shelf.{map_on}
use Rattle.text.specs.Text.{Added}
use Rattle.report.specs.Report.{octant_lines}
use Rattle.report.specs.Room.{line_room}
use Rattle.report.proofs.reporting.octant_lines.Given as goal

abbrev pub invariant-loop-o : goal.invariant-loop-o
invariant-loop-o g l = Added l.initial.page (octant_lines (map_on l.shelf) l.o) (line_room * l.o) l.page
