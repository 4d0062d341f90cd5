-- How many bytes the texts have at the most: the room that the code asks for. Assumes nothing.
use Rattle.std.specs.Prelude.{ℕ, ◌+◌, ◌*◌}
use Rattle.report.specs.Room.{line_room}
use Rattle.rounds.specs.Rounds.{lossy_rounds}

-- a line for the fresh state, for each round with loss, and for as many full rounds as the largest width, height and depth together
abbrev pub rounds_room : ℕ
rounds_room = (1 + lossy_rounds + (16 + 16 + 16)) * line_room

-- an orientation: these between two lines
abbrev pub octant_room : ℕ
octant_room = rounds_room + 2 * line_room

abbrev pub octants_room : ℕ
octants_room = 8 * octant_room

-- the text for a file
abbrev pub gossip_room : ℕ
gossip_room = 2 * line_room + octants_room
