-- `report::reporting::map_report` meets its contract: the first line, and then the others. Assumes nothing.
use mathlib.Core.Path.{ap, ◌∙◌}
use Rattle.maps.proofs.Shelves.{in_order}
use Rattle.counts.proofs.Counted.{faulty_counted}
use Rattle.text.proofs.Adding.{added_then, added_as}
use Rattle.report.specs.Report.{first_line}
use Rattle.report.proofs.reporting.map_report.Goals as goal

pub returns : goal.returns
returns g c =
    let s = c.args.shelf.now in
    let e = c.count_faulty.ensures ∙ faulty_counted s.sizes s.cells.now (in_order s) in
    added_then (added_as (ap (first_line s.sizes) e) c.first_line.ensures) c.octant_lines.ensures
