-- The calls on routes: their answers, and what they leave in what is lent to them. The functions owe these equations and nothing else: what
-- the equations mean stands in Promise.antt, and is proved. Assumes nothing.
use Rattle.std.specs.Prelude.{List, ◌++◌, ℕ, ◌+◌, length, drop, Ok, Err, Result}
use Rattle.mesh.specs.Mesh.{nodes, place_of}
use Rattle.mesh.specs.Cells.{Map, map_of, cell_at, may_end}
use Rattle.mesh.specs.Answers.{granted, answered, ◌and_then◌, unless, check_map, check_node, check_room, Answer}
use Rattle.mesh.specs.declared.Sizes.{Sizes}
use Rattle.mesh.specs.declared.Place.{Place}
use Rattle.mesh.specs.declared.Refusal.TheVariants.{FaultyEnd, NoPath}
use Rattle.paths.specs.Differences.{hops}
use Rattle.paths.specs.Paths.{leads}
use Rattle.paths.specs.Offered.{offered, route, reached, reached_count}
use Rattle.mesh.specs.declared.Refusal.{Refusal}
use Rattle.paths.specs.declared.Grant.{Grant}

-- what a verdict grants
abbrev pub grant : ℕ → ℕ → Grant
grant h o = record { hops = h; offered = o }

-- a verdict's values: "A refusal returns its number and 0 for every value"
abbrev pub verdict_hops : Result Grant Refusal → ℕ
verdict_hops (Ok g) = g.hops
verdict_hops (Err r) = 0

abbrev pub verdict_offered : Result Grant Refusal → ℕ
verdict_offered (Ok g) = g.offered
verdict_offered (Err r) = 0

-- 9: "start or end of a route is faulty"; 10: "no path"
abbrev pub check_end : Map → Place → Answer
check_end m p = unless (may_end (cell_at m p)) FaultyEnd

abbrev pub check_path : Map → Place → Place → Answer
check_path m s e = unless (leads m e s e) NoPath

-- the ends of a route, by their numbers: 1, 2, 4, 5, 9
unfoldable pub check_ends : Sizes → List ℕ → ℕ → ℕ → Answer
check_ends S cells s e =
    check_map S cells and_then check_node S s and_then check_node S e
    and_then check_end (map_of S cells) (place_of S s) and_then check_end (map_of S cells) (place_of S e)

-- "The verdict gives the hops and the offered set at the start." 1, 2, 4, 5, 9, 10
unfoldable pub verdict_check : Sizes → List ℕ → ℕ → ℕ → Answer
verdict_check S cells s e = check_ends S cells s e and_then check_path (map_of S cells) (place_of S s) (place_of S e)

unfoldable pub verdict_answer : Sizes → List ℕ → ℕ → ℕ → Result Grant Refusal
verdict_answer S cells s e =
    answered (verdict_check S cells s e) (grant (hops (place_of S s) (place_of S e)) (offered (map_of S cells) (place_of S e) (place_of S s)))

-- "it is a list of 16-bit node numbers, hops + 1 of them": 1, 2, 4, 5, 9, 10, 3
abbrev pub route_length : Sizes → ℕ → ℕ → ℕ
route_length S s e = hops (place_of S s) (place_of S e) + 1

unfoldable pub route_check : Sizes → List ℕ → ℕ → ℕ → ℕ → Answer
route_check S cells s e room = verdict_check S cells s e and_then check_room (route_length S s e) room

unfoldable pub route_answer : Sizes → List ℕ → ℕ → ℕ → ℕ → Result ℕ Refusal
route_answer S cells s e room = answered (route_check S cells s e room) (route_length S s e)

-- "Longer outputs keep their remaining places."
unfoldable pub route_written : Sizes → List ℕ → ℕ → ℕ → List ℕ → List ℕ
route_written S cells s e out = route (map_of S cells) (place_of S e) (place_of S s) ++ drop (route_length S s e) out

-- the lent numbers as the call returns
abbrev pub route_out : Sizes → List ℕ → ℕ → ℕ → List ℕ → List ℕ
route_out S cells s e out = granted (route_check S cells s e (length out)) (route_written S cells s e out) out

-- what is reached: 1, 2, 4, 5, 9, 3
unfoldable pub reached_check : Sizes → List ℕ → ℕ → ℕ → ℕ → Answer
reached_check S cells s e room = check_ends S cells s e and_then check_room (nodes S) room

unfoldable pub reached_answer : Sizes → List ℕ → ℕ → ℕ → ℕ → Result ℕ Refusal
reached_answer S cells s e room = answered (reached_check S cells s e room) (reached_count (map_of S cells) (place_of S s) (place_of S e))

unfoldable pub reached_written : Sizes → List ℕ → ℕ → ℕ → List ℕ → List ℕ
reached_written S cells s e out = reached (map_of S cells) (place_of S s) (place_of S e) ++ drop (nodes S) out

abbrev pub reached_out : Sizes → List ℕ → ℕ → ℕ → List ℕ → List ℕ
reached_out S cells s e out = granted (reached_check S cells s e (length out)) (reached_written S cells s e out) out
