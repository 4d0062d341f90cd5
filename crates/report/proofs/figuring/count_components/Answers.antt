-- `report::figuring::count_components` meets its contract: table and row have room for every map. Assumes nothing.
use mathlib.Core.Path.{ap, ◌∙◌}
use Prim.Native.Nat.{ℕ}
use Rattle.rules.specs.Marks.{marks_of}
use Rattle.mesh.specs.Answers.{answer_value, Answer}
use Rattle.maps.specs.Shelf.{map_on}
use Rattle.maps.proofs.Shelves.{in_order}
use Rattle.touching.specs.Components.{how_many}
use Rattle.touching.specs.Entry.{components_check}
use Rattle.report.proofs.Granted.{components_granted}
use Rattle.report.proofs.figuring.count_components.Goals as goal

pub returns : goal.returns
returns c =
    let s = c.args.shelf.now in
    let o = c.args.o in
    let n = how_many s.sizes (marks_of (map_on s) o) in
    c.compute.ensures.count
    ∙ ap (λ (l : ℕ). answer_value (components_check s.sizes s.cells.now o l 4096) n) c.blank_table-table.ensures
    ∙ ap (λ (a : Answer). answer_value a n) (components_granted s.sizes s.cells.now (in_order s) o c.requires)
