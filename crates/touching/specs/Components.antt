-- 01, "Components": numbers, the table and the records. Assumes nothing.
use Rattle.std.specs.Prelude.{cond, List, map, ℕ, length, get_or, eqb, leb}
use Rattle.mesh.specs.Tools.{table}
use Rattle.mesh.specs.Mesh.{Axis, X, Y, Z, on, place_of}
use Rattle.mesh.specs.declared.Sizes.{Sizes}
use Rattle.touching.specs.Lists.{is_in, keep, least, greatest}
use Rattle.touching.specs.Touch.{unsafe_nodes, component}
use Rattle.touching.specs.declared.Component.{Component}

-- the lowest node of a's component: the first, since it ascends
unfoldable pub lowest : Sizes → List ℕ → ℕ → ℕ
lowest S among a = get_or (component S among a) 0 0

-- the lowest nodes of the components, ascending, one for each
unfoldable pub lowest_nodes : Sizes → List ℕ → List ℕ
lowest_nodes S among = keep (λ a. eqb (lowest S among a) a) among

-- "Components are numbered from 1 by their lowest node number", "0 for a safe one": how many of the lowest nodes are not above a's lowest
unfoldable pub number_among : Sizes → List ℕ → List ℕ → ℕ → ℕ
number_among S among firsts a = cond (is_in a among) (length (keep (λ k. leb k (lowest S among a)) firsts)) 0

-- "The answer is a table of 16-bit numbers, one for each node"
abbrev pub table_among : Sizes → List ℕ → ℕ → List ℕ
table_among S among n = table (number_among S among (lowest_nodes S among)) n

unfoldable pub table_of : Sizes → List ℕ → List ℕ
table_of S marks = table_among S (unsafe_nodes marks) (length marks)

-- "and one record for each component": "count of nodes, least and greatest coordinate on each axis"
abbrev pub coordinate : Sizes → Axis → ℕ → ℕ
coordinate S a k = on (place_of S k) a

unfoldable pub record_of : Sizes → List ℕ → Component
record_of S members =
    record {
      count = length members;
      x0 = least (coordinate S X) members;
      y0 = least (coordinate S Y) members;
      z0 = least (coordinate S Z) members;
      x1 = greatest (coordinate S X) members;
      y1 = greatest (coordinate S Y) members;
      z1 = greatest (coordinate S Z) members;
    }

-- a record's least and greatest coordinate on an axis
abbrev pub least_of : Component → Axis → ℕ
least_of c X = c.x0
least_of c Y = c.y0
least_of c Z = c.z0

abbrev pub greatest_of : Component → Axis → ℕ
greatest_of c X = c.x1
greatest_of c Y = c.y1
greatest_of c Z = c.z1

abbrev pub records_among : Sizes → List ℕ → List Component
records_among S among = map (λ a. record_of S (component S among a)) (lowest_nodes S among)

unfoldable pub records_of : Sizes → List ℕ → List Component
records_of S marks = records_among S (unsafe_nodes marks)

-- "The number of components is returned."
unfoldable pub how_many : Sizes → List ℕ → ℕ
how_many S marks = length (lowest_nodes S (unsafe_nodes marks))
