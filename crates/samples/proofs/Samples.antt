-- The starred samples of 01 hold of the definitions: one statement about the whole table, proved by computation. Assumes nothing.
use mathlib.Core.Path.{◌≡◌, refl}
use mathlib.Core.List.{map}
use Rattle.rules.specs.Marks.{marked, stuck_within, stuck, mark_at, marks_of}
use Rattle.rules.specs.Entry.{marks_answer, marks_written}
use Rattle.touching.specs.Lists.{any_of, keep, least, greatest}
use Rattle.touching.specs.Touch.{unsafe_nodes, touch, grown, component}
use Rattle.touching.specs.Components.{lowest, lowest_nodes, number_among, table_of, record_of, records_of, how_many}
use Rattle.touching.specs.Entry.{components_check, components_answer, table_written, row_written}
use Rattle.paths.proofs.Computed.{computed as routes}
use Rattle.talk.proofs.Computed.{computed as talk}
use Rattle.samples.specs.Questions.{reply}
use Rattle.samples.specs.Rows.{Row, rows}

pub samples_hold : map (λ (r : Row). reply r.asked) rows ≡ map (λ (r : Row). r.answer) rows
unfolding routes talk marked stuck_within stuck mark_at marks_of marks_answer marks_written
    any_of keep least greatest unsafe_nodes touch grown component lowest lowest_nodes number_among table_of record_of records_of how_many
    components_check components_answer table_written row_written
samples_hold = refl
