-- The call for the components of a map: its answer, and what it leaves in the table and in the row of records lent to it. Assumes nothing.
use Rattle.std.specs.Prelude.{List, ◌++◌, ℕ, length, drop, Result}
use Rattle.mesh.specs.Mesh.{nodes}
use Rattle.mesh.specs.Cells.{map_of}
use Rattle.rules.specs.Marks.{marks_of}
use Rattle.mesh.specs.Answers.{granted, answered, ◌and_then◌, check_map, check_orientation, check_room, Answer}
use Rattle.mesh.specs.declared.Sizes.{Sizes}
use Rattle.touching.specs.Components.{table_of, records_of, how_many}
use Rattle.touching.specs.declared.Component.{Component}
use Rattle.mesh.specs.declared.Refusal.{Refusal}

-- refusals 1, 2, 4, 5, 3, in this order; 3 if the table or the row of records is short
unfoldable pub components_check : Sizes → List ℕ → ℕ → ℕ → ℕ → Answer
components_check S cells o table_room row_room =
    check_map S cells
    and_then check_orientation o
    and_then check_room (nodes S) table_room
    and_then check_room (how_many S (marks_of (map_of S cells) o)) row_room

unfoldable pub components_answer : Sizes → List ℕ → ℕ → ℕ → ℕ → Result ℕ Refusal
components_answer S cells o table_room row_room = answered (components_check S cells o table_room row_room) (how_many S (marks_of (map_of S cells) o))

-- what is written: the table and the records; "longer outputs keep their remaining places"
unfoldable pub table_written : Sizes → List ℕ → ℕ → List ℕ → List ℕ
table_written S cells o old = table_of S (marks_of (map_of S cells) o) ++ drop (nodes S) old

unfoldable pub row_written : Sizes → List ℕ → ℕ → List Component → List Component
row_written S cells o old = records_of S (marks_of (map_of S cells) o) ++ drop (how_many S (marks_of (map_of S cells) o)) old

-- the lent table and the lent row as the call returns
abbrev pub components_table : Sizes → List ℕ → ℕ → List ℕ → List Component → List ℕ
components_table S cells o old_table old_row =
    granted (components_check S cells o (length old_table) (length old_row)) (table_written S cells o old_table) old_table

abbrev pub components_row : Sizes → List ℕ → ℕ → List ℕ → List Component → List Component
components_row S cells o old_table old_row =
    granted (components_check S cells o (length old_table) (length old_row)) (row_written S cells o old_row) old_row
