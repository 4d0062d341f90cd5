-- What the call has found before its records are stored. Assumes nothing.
use Rattle.std.specs.Prelude.{List, [], ◌++◌, ◌≡◌, ℕ, ◌≤◌, length, drop, get_or, Ok, Err, Result}
use Rattle.mesh.specs.Mesh.{nodes}
use Rattle.mesh.specs.Cells.{map_of}
use Rattle.rules.specs.Marks.{marks_of}
use Rattle.mesh.specs.Answers.{granted, answered, answer_value, ◌and_then◌, check_map, check_orientation, check_room, accepted, Answer}
use Rattle.mesh.specs.declared.Sizes.{Sizes}
use Rattle.mesh.specs.declared.Refusal.{Refusal}
use Rattle.touching.specs.Components.{records_of, how_many}
use Rattle.touching.specs.Entry.{components_check, components_answer, table_written}
use Rattle.touching.specs.declared.Component.{Component}
use Rattle.grids.specs.Grid.{grid_at}
use Rattle.grids.specs.Layout.{copied}
use Rattle.floods.specs.Label.{no_records}
use Rattle.floods.specs.declared.Found.{Found}

-- a granted map's grid; on a refusal it is empty
abbrev pub Gridded : Sizes → List ℕ → ℕ → Answer → List ℕ → Type 0
Gridded S cells o a g = (j : ℕ) → get_or g j 0 ≡ answer_value a (grid_at S (marks_of (map_of S cells) o) j)

-- the checks that are left when the components have been counted: "3 an output lent is shorter than what is to be written"
abbrev pub room_check : Sizes → Answer → ℕ → ℕ → ℕ → Answer
room_check S checked count table_room row_room = checked and_then check_room (nodes S) table_room and_then check_room count row_room

-- the answer, and the table: the grid's numbers, or as it was on a refusal
pub record Answered (S : Sizes) (checked : Answer) (g : List ℕ) (count room : ℕ) (old new : List ℕ) (r : Result ℕ Refusal) : Type 0 where
  pub answer : r ≡ answered (room_check S checked count (length old) room) count
  pub copied : room_check S checked count (length old) room ≡ accepted → new ≡ copied S g old
  pub kept : (x : Refusal) → room_check S checked count (length old) room ≡ Err x → new ≡ old

-- how many records are stored: none on a refusal
abbrev pub stored_of : Result ℕ Refusal → ℕ
stored_of (Ok n) = n
stored_of (Err r) = 0

-- records in the room for as many as a mesh can have
abbrev pub in_room : List Component → List Component
in_room records = records ++ drop (length records) no_records

-- the answer, the table, all records of a map that is in order, and how many there are to store: none on a refusal
pub record Computed (S : Sizes) (cells : List ℕ) (o room : ℕ) (old new : List ℕ) (r : Result ℕ Refusal) (f : Found) : Type 0 where
  pub answer : r ≡ components_answer S cells o (length old) room
  pub table : new ≡ granted (components_check S cells o (length old) room) (table_written S cells o old) old
  pub count : f.count ≡ answer_value (components_check S cells o (length old) room) (how_many S (marks_of (map_of S cells) o))
  pub records : f.records ≡ in_room (granted (check_map S cells and_then check_orientation o) (records_of S (marks_of (map_of S cells) o)) [])
  pub in_row : f.count ≤ room
