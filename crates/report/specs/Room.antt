-- How many bytes the texts have at the most: the room that the code asks for. Assumes nothing.
use Rattle.std.specs.Prelude.{ℕ, ◌+◌, ◌*◌}

-- a line
abbrev pub line_room : ℕ
line_room = 128

-- a line for each orientation
abbrev pub octant_lines_room : ℕ
octant_lines_room = 8 * line_room

-- the report on a file
abbrev pub report_room : ℕ
report_room = line_room + octant_lines_room
