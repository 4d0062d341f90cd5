-- Whether any node is stuck, by three stretches of cells: those of the neighbours ahead on X, Y and Z, of the same nodes. Assumes nothing.
use Rattle.std.specs.Prelude.{cond, List, ℕ, ◌+◌, ◌-◌, ◌<◌, T, get_or}
use Rattle.mesh.specs.Mesh.{Z, place, nodes, number}
use Rattle.mesh.specs.Cells.{faulty_cell}
use Rattle.rules.specs.Marks.{counted}
use Rattle.mesh.specs.declared.Sizes.{Sizes}

-- a coordinate on Z, 0 where Z does not count
abbrev pub on_z : Sizes → ℕ → ℕ
on_z S z = cond (counted S Z) z 0

-- how many nodes there are from the first to the last that has a neighbour ahead on every axis that counts
abbrev pub inner : Sizes → ℕ
inner S = nodes S - number S (place 1 1 (on_z S 1))

-- nowhere in three stretches of n cells are all three faulty at the same place
abbrev pub Apart : List ℕ → ℕ → ℕ → ℕ → ℕ → Type 0
Apart cells p q r n = (i : ℕ) → i < n → T (faulty_cell (get_or cells (p + i) 0)) → T (faulty_cell (get_or cells (q + i) 0)) → T (faulty_cell (get_or cells (r + i) 0)) → ⊥
