-- The call for the marks of a map: its answer, and what it leaves in the bytes lent to it. Assumes nothing.
use Rattle.std.specs.Prelude.{List, ◌++◌, ℕ, length, drop}
use Rattle.mesh.specs.Mesh.{nodes}
use Rattle.mesh.specs.Cells.{map_of}
use Rattle.rules.specs.Marks.{marks_of}
use Rattle.mesh.specs.Answers.{granted, ◌and_then◌, check_map, check_orientation, check_room, Answer}
use Rattle.mesh.specs.declared.Sizes.{Sizes}

-- refusals 1, 2, 4, 5, 3, in this order; `room` bytes are lent
unfoldable pub marks_answer : Sizes → List ℕ → ℕ → ℕ → Answer
marks_answer S cells o room = check_map S cells and_then check_orientation o and_then check_room (nodes S) room

-- the mark bytes in node order; "longer outputs keep their remaining places"
unfoldable pub marks_written : Sizes → List ℕ → ℕ → List ℕ → List ℕ
marks_written S cells o out = marks_of (map_of S cells) o ++ drop (nodes S) out

-- the lent bytes as the call returns
abbrev pub marks_out : Sizes → List ℕ → ℕ → List ℕ → List ℕ
marks_out S cells o out = granted (marks_answer S cells o (length out)) (marks_written S cells o out) out
