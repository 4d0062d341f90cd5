-- How many bytes the parts of a picture have at the most: the room that the code asks for. A mesh has 16 nodes on an axis at the most.
-- Assumes nothing.
use Rattle.std.specs.Prelude.{ℕ, ◌+◌, ◌*◌}

-- a number in decimal digits
abbrev pub number_room : ℕ
number_room = 20

-- the symbols of a row, three bytes each; the row, with its y before them and its first and last node after them; the rows of a layer
abbrev pub symbols_room : ℕ
symbols_room = 16 * 3

abbrev pub label_room : ℕ
label_room = 10 + number_room

abbrev pub row_room : ℕ
row_room = label_room + symbols_room + (16 + 2 * number_room)

abbrev pub rows_room : ℕ
rows_room = 16 * row_room

-- the x of a column, and of all columns; the head of a layer, with its z before them; all layers
abbrev pub column_room : ℕ
column_room = 3 + number_room

abbrev pub columns_room : ℕ
columns_room = 16 * column_room

abbrev pub layer_room : ℕ
layer_room = 22 + number_room

abbrev pub layer_head_room : ℕ
layer_head_room = layer_room + columns_room + 1

abbrev pub layers_room : ℕ
layers_room = 16 * (layer_head_room + rows_room)

-- the line above the layers: two places, and three directions of three bytes
abbrev pub ends_room : ℕ
ends_room = 59 + 6 * number_room + 3 * 3 + 1

-- the picture
abbrev pub picture_room : ℕ
picture_room = ends_room + layers_room
