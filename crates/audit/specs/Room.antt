-- How many bytes the texts of an audit have at the most: the room that the code asks for; and how long a log may be. Assumes nothing.
use Rattle.std.specs.Prelude.{ℕ, ◌+◌, ◌*◌}
use Rattle.transfers.specs.Room.{number_room}

-- the longest log that is read
abbrev pub longest_log : ℕ
longest_log = 65536

-- how to call the program
abbrev pub usage_room : ℕ
usage_room = 376

-- what stands above an audit, and that the log is too long
abbrev pub heading_room : ℕ
heading_room = 719 + 5 * number_room

abbrev pub too_long_room : ℕ
too_long_room = 56

abbrev pub top_room : ℕ
top_room = heading_room + too_long_room

-- the totals
abbrev pub totals_room : ℕ
totals_room = 93 + 5 * number_room
