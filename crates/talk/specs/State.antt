-- 01, "The talking nodes": the bytes of a state, the map that it tells, and who talks to whom. Assumes nothing.
use Rattle.std.specs.Prelude.{Bool, ◌&&◌, List, ◌↔◌, ◌≡◌, ℕ, ◌+◌, ◌*◌, ◌<◌, T, eqb, ltb, get_or}
use Rattle.mesh.specs.Tools.{bit, table}
use Rattle.mesh.specs.Mesh.{nodes, place_of}
use Rattle.mesh.specs.Steps.{neighbour}
use Rattle.mesh.specs.Cells.{Map, map_of, faulty, works, linked}
use Rattle.mesh.specs.declared.Sizes.{Sizes}

-- "Node k's own mark byte is at 7 × k; the word it has heard from its neighbour in direction j is at 7 × k + 1 + j."
abbrev pub own : List ℕ → ℕ → ℕ
own s k = get_or s (7 * k) 0

abbrev pub heard : List ℕ → ℕ → ℕ → ℕ
heard s k j = get_or s (7 * k + 1 + j) 0

-- node k holds the same seven bytes in s and in t
abbrev pub SameAt : ℕ → List ℕ → List ℕ → Type 0
SameAt k s t = (own s k ≡ own t k) × ((j : ℕ) → j < 6 → heard s k j ≡ heard t k j)

-- the map that a state tells: "every other call on a state reads from it which nodes are faulty (own byte 1)"
unfoldable pub cells_in : Sizes → List ℕ → List ℕ
cells_in S s = table (λ k. bit (eqb (own s k) 1)) (nodes S)

abbrev pub map_in : Sizes → List ℕ → Map
map_in S s = map_of S (cells_in S s)

-- node k is faulty; node k works
abbrev pub faulty_node : Map → ℕ → Bool
faulty_node m k = faulty m (place_of m.sizes k)

abbrev pub works_node : Map → ℕ → Bool
works_node m k = works m (place_of m.sizes k)

-- "It is a state of a map if own byte 1 stands exactly at the map's faulty nodes."
abbrev pub StateOf : Map → List ℕ → Type 0
StateOf m s = (k : ℕ) → k < nodes m.sizes → (own s k ≡ 1) ↔ T (faulty_node m k)

-- an ordered pair of "a working listener", k, "and a working neighbour", the one in direction j: a word may cross
unfoldable pub pair : Map → ℕ → ℕ → Bool
pair m k j = ltb k (nodes m.sizes) && works_node m k && linked m (place_of m.sizes k) j && works_node m (neighbour m.sizes k j)

-- the own byte of k's neighbour in direction j
abbrev pub says : Sizes → List ℕ → ℕ → ℕ → ℕ
says S s k j = own s (neighbour S k j)
