-- How many bytes the text for a transfer has at the most: the room that the code asks for. Assumes nothing.
use Rattle.std.specs.Prelude.{ℕ, ◌+◌, ◌*◌}
pub use Rattle.picture.specs.Room.{number_room}
use Rattle.picture.specs.Room.{picture_room}

-- a reason, which is one of the lines of a text of so many bytes, and the end of its line
abbrev pub reason_room : ℕ
reason_room = 348 + 1

-- the node numbers of the longest route; the hops before them
abbrev pub node_room : ℕ
node_room = 2 + number_room

abbrev pub route_room : ℕ
route_room = 46 * node_room

abbrev pub hops_room : ℕ
hops_room = 24 + number_room

abbrev pub granted_room : ℕ
granted_room = hops_room + route_room + 1

-- the reason and the picture
abbrev pub refused_line_room : ℕ
refused_line_room = 10 + reason_room

abbrev pub refused_room : ℕ
refused_room = refused_line_room + picture_room

-- the line, the two ends, and the longer of the two
abbrev pub head_room : ℕ
head_room = 14 + 3 * number_room

abbrev pub transfer_room : ℕ
transfer_room = head_room + refused_room
