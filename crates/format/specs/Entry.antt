-- The calls that read and write a map file: their answers, and what they leave in the bytes lent to them. Assumes nothing.
use Rattle.std.specs.Prelude.{◌&&◌, List, ◌++◌, ℕ, length, drop, eqb, leb, Ok, Err, Result}
use Rattle.mesh.specs.Tools.{between}
use Rattle.mesh.specs.Mesh.{sizes, nodes}
use Rattle.mesh.specs.Answers.{granted, answered, ◌and_then◌, unless, check_sizes, check_cells, check_map, check_room, Answer}
use Rattle.mesh.specs.declared.Sizes.{Sizes}
use Rattle.mesh.specs.declared.Refusal.TheVariants.{BadFile}
use Rattle.format.specs.Format.{trailer_length, file_limit, distance, file_of, trailer_at, has_mark, sizes_in, distance_in, cells_in}
use Rattle.mesh.specs.declared.Refusal.{Refusal}

-- the sizes of a map that was read
abbrev pub map_read_sizes : Result Sizes Refusal → Sizes
map_read_sizes (Ok S) = S
map_read_sizes (Err r) = sizes 0 0 0

-- "Reading a file: length, mark and zero byte (11), sizes (1), distance not N + 12 or beyond the file (11), room (3), cells (4)."
unfoldable pub check_frame : List ℕ → Answer
check_frame file =
    unless (between trailer_length file_limit (length file)) BadFile and_then unless (has_mark file && eqb (trailer_at file 3) 0) BadFile

unfoldable pub check_trailer : List ℕ → Answer
check_trailer file =
    check_frame file
    and_then check_sizes (sizes_in file)
    and_then unless (eqb (distance_in file) (distance (sizes_in file)) && leb (distance (sizes_in file)) (length file)) BadFile

unfoldable pub read_check : List ℕ → ℕ → Answer
read_check file room = check_trailer file and_then check_room (nodes (sizes_in file)) room and_then check_cells (sizes_in file) (cells_in file)

unfoldable pub read_answer : List ℕ → ℕ → Result Sizes Refusal
read_answer file room = answered (read_check file room) (sizes_in file)

-- the cells go to the front of the lent bytes; "longer outputs keep their remaining places"
unfoldable pub read_written : List ℕ → List ℕ → List ℕ
read_written file out = cells_in file ++ drop (nodes (sizes_in file)) out

-- the lent bytes as the call returns
abbrev pub read_out : List ℕ → List ℕ → List ℕ
read_out file out = granted (read_check file (length out)) (read_written file out) out

-- Writing: refusals 1, 2, 4, 3; "A call that writes a file .. also returns its length."
unfoldable pub write_check : Sizes → List ℕ → ℕ → Answer
write_check S cells room = check_map S cells and_then check_room (distance S) room

unfoldable pub write_answer : Sizes → List ℕ → ℕ → Result ℕ Refusal
write_answer S cells room = answered (write_check S cells room) (distance S)

unfoldable pub write_written : Sizes → List ℕ → List ℕ → List ℕ
write_written S cells out = file_of S cells ++ drop (distance S) out

abbrev pub write_out : Sizes → List ℕ → List ℕ → List ℕ
write_out S cells out = granted (write_check S cells (length out)) (write_written S cells out) out
