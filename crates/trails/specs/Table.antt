-- The table of a route: the layers of a sweep from the end, and the way through them. No promise is stated in these words: that the way is
-- the route is proved (proofs/Trails). Assumes nothing.
use Rattle.std.specs.Prelude.{◌≡◌, Bool, cond, List, ◌++◌, ℕ, zero, suc, ◌+◌, ◌*◌, ◌<◌, length, get_or, drop, Result}
use Rattle.mesh.specs.Tools.{bit, one}
use Rattle.mesh.specs.Mesh.{X, Y, Z}
use Rattle.mesh.specs.Cells.{Map}
use Rattle.mesh.specs.Answers.{granted, answered, ◌and_then◌, check_room, Answer}
use Rattle.mesh.specs.declared.Place.{Place}
use Rattle.paths.specs.Differences.{hops}
use Rattle.paths.specs.Offered.{route}
use Rattle.paths.specs.Entries.{check_path}
use Rattle.rows.specs.Row.{bit_at}
use Rattle.rows.specs.Box.{far, Within}
use Rattle.sweeps.specs.Sweep.{nearer, Seen, seen_at}
use Rattle.sweeps.specs.declared.Ways.{Ways}
use Rattle.rows.specs.declared.Between.{Between}
use Rattle.mesh.specs.declared.Refusal.{Refusal}

-- the rows of the first n layers: bit a of row b of layer c says whether the node a, b and c steps away is seen, whatever is seen
abbrev pub Table : Map → Between → ℕ → List ℕ → Type 0
Table m g n table = (seen : Place → Bool) → Seen m g seen → (t : Place) → Within g t → t.z < n → bit_at (get_or table (16 * t.z + t.y) 0) t.x ≡ seen t

-- the node one step nearer: the first of X, Y and Z
abbrev pub towards : Ways → Place → Place
towards w t = cond (one w.x) (nearer t X) (cond (one w.y) (nearer t Y) (cond (one w.z) (nearer t Z) t))

-- the ways into a node, as they stand in the table: in the same row, in the row before, in the layer before
abbrev pub ways_in : List ℕ → Place → Ways
ways_in table t = record {
  x = bit (seen_at table t.x t.x 1 (16 * t.z + t.y) 0);
  y = bit (seen_at table t.y t.x 0 (16 * t.z + t.y) 1);
  z = bit (seen_at table t.z t.x 0 (16 * t.z + t.y) 16);
}

abbrev pub nearest : List ℕ → Place → Place
nearest table t = towards (ways_in table t) t

-- the way, i steps from the far corner on
abbrev pub trail : Between → List ℕ → ℕ → Place
trail g table zero = far g
trail g table (suc i) = nearest table (trail g table i)

-- the answer and the lent numbers, past the checks of the ends: refusals 10 and 3
abbrev pub path_check : Map → Place → Place → ℕ → Answer
path_check m p e room = check_path m p e and_then check_room (hops p e + 1) room

abbrev pub routed_answer : Map → Place → Place → ℕ → Result ℕ Refusal
routed_answer m p e room = answered (path_check m p e room) (hops p e + 1)

abbrev pub routed_out : Map → Place → Place → List ℕ → List ℕ
routed_out m p e old = granted (path_check m p e (length old)) (route m e p ++ drop (hops p e + 1) old) old
