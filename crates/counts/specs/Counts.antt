-- What is counted: faulty nodes, and nodes that hold a mark. Assumes nothing.
use Rattle.std.specs.Prelude.{List, ℕ, ◌/◌, ◌%◌, eqb, length, get_or}
use Rattle.mesh.specs.Tools.{count}
use Rattle.mesh.specs.Mesh.{nodes, place_of}
use Rattle.mesh.specs.Cells.{Map, faulty_cell, faulty}
use Rattle.rules.specs.Marks.{Kind, holds}

-- "count of faulty nodes"
unfoldable pub faulty_count : Map → ℕ
faulty_count m = count (nodes m.sizes) λ k. faulty m (place_of m.sizes k)

-- "working nodes with the useless mark, with the can't-reach mark": no other node holds one (`marked`)
unfoldable pub marked_count : Map → ℕ → Kind → ℕ
marked_count m o mark = count (nodes m.sizes) λ k. holds m o (place_of m.sizes k) mark

-- the same, as they are counted: the faulty cells, and the mark bytes with the bit 2 or 4
abbrev pub faulty_among : List ℕ → ℕ
faulty_among cells = count (length cells) λ k. faulty_cell (get_or cells k 0)

abbrev pub with_bit : List ℕ → ℕ → ℕ
with_bit marks mark = count (length marks) λ k. eqb (get_or marks k 0 / mark % 2) 1
