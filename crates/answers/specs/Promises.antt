-- The fourteen calls, one after another, in the numbers that a caller sees: what is promised of a call with these arguments that returns `answer`.
-- What is lent to be written stands as it is before the call, and after the answer as it is then. No call asks for anything: every promise is of every
-- input. dukthari/proofs/Promises.antt shows each of the call's contract, as the toolchain reads it from the code.
--
-- Three things are the same in all of them (mesh/specs/Order.antt). `order`: the checks that the call makes, in 01's order, each with the number of its
-- refusal, `give` the field `refusal`: that of the first that fails, and 0 where none does. `names_bad`: the field `bad` is the node number of the
-- first bad cell where the refusal is 4, and else 0. On a refusal every other value is 0, and what was lent is as it was. Assumes nothing.
use Rattle.std.specs.Prelude.{List, ℕ}
use Rattle.mesh.specs.Mesh.{sizes, place}
use Rattle.mesh.specs.Promise.{NumberPromise, PlacePromise, StepPromise}
use Rattle.rules.specs.Promise.{MarksPromise}
use Rattle.touching.specs.Call.{ComponentsPromise}
use Rattle.touching.specs.declared.Component.{Component}
use Rattle.paths.specs.Promise.{VerdictPromise, RoutePromise, ReachedPromise}
use Rattle.talk.specs.Calls.{FreshCall, SoundCall, OutstandingCall, HearCall}
use Rattle.format.specs.Promise.{Reads, Writes}
use Rattle.answers.specs.declared.NodeAnswer.{NodeAnswer}
use Rattle.answers.specs.declared.PlaceAnswer.{PlaceAnswer}
use Rattle.answers.specs.declared.StepAnswer.{StepAnswer}
use Rattle.answers.specs.declared.DoneAnswer.{DoneAnswer}
use Rattle.answers.specs.declared.CountedAnswer.{CountedAnswer}
use Rattle.answers.specs.declared.VerdictAnswer.{VerdictAnswer}
use Rattle.answers.specs.declared.MapAnswer.{MapAnswer}

-- ---- places (mesh/specs/Promise.antt)

-- Refused by 1 and 5. Else `node` is x + w × (y + h × z).
abbrev pub dk_number : (w h d x y z : ℕ) → NodeAnswer → Type 0
dk_number w h d x y z answer = NumberPromise (sizes w h d) (place x y z) answer.refusal answer.node

-- Refused by 1 and 5. Else (x, y, z) is the place in the mesh whose number is `node`.
abbrev pub dk_place : (w h d node : ℕ) → PlaceAnswer → Type 0
dk_place w h d node answer = PlacePromise (sizes w h d) node answer.refusal answer.x answer.y answer.z

-- Refused by 1 and 5. Else `there` is 1 and the answer's place is in the mesh, one step away by the table of signed triples; or it is 0, and no place
-- in the mesh is that step away.
abbrev pub dk_step : (w h d x y z direction : ℕ) → StepAnswer → Type 0
dk_step w h d x y z direction answer =
    StepPromise (sizes w h d) (place x y z) direction answer.refusal answer.there answer.x answer.y answer.z

-- ---- marks and components (rules/specs/Promise.antt, touching/specs/Call.antt)

-- Refused by 1, 2, 4, 5, 3. Else the bytes in front are marks by 01's two rules; no others obey them, and marks that omit no node which a rule marks
-- include at least these. The bytes after them are as they were.
abbrev pub dk_marks : (w h d orientation : ℕ) (cells out : List ℕ) → DoneAnswer → List ℕ → Type 0
dk_marks w h d orientation cells out answer new = MarksPromise (sizes w h d) cells orientation out answer.refusal answer.bad new

-- Refused by 1, 2, 4, 5, 3. Else `count` is the number of components; two unsafe nodes have the same number in the table exactly if touching joins them,
-- numbers rise with the lowest node, and each record has its component's number of nodes, least and greatest coordinates.
abbrev pub dk_components : (w h d orientation : ℕ) (cells table : List ℕ) (row : List Component) → CountedAnswer → List ℕ → List Component → Type 0
dk_components w h d orientation cells table row answer new_table new_row =
    ComponentsPromise (sizes w h d) cells orientation table row answer.refusal answer.bad answer.count new_table new_row

-- ---- routes (paths/specs/Promise.antt)

-- Refused by 1, 2, 4, 5, 9, 10: by 10 exactly if the question is in order, both ends work and no path joins them. Else `hops` is the Manhattan distance,
-- and bit j of `offered` is set exactly if a path to the end begins in direction j.
abbrev pub dk_verdict : (w h d start end : ℕ) (cells : List ℕ) → VerdictAnswer → Type 0
dk_verdict w h d start end cells answer =
    VerdictPromise (sizes w h d) cells start end answer.refusal answer.bad answer.hops answer.offered

-- Refused by 1, 2, 4, 5, 9, 10, 3. Else `count` numbers stand in front, hops + 1: a path that takes the lowest offered direction at each node.
abbrev pub dk_route : (w h d start end : ℕ) (cells out : List ℕ) → CountedAnswer → List ℕ → Type 0
dk_route w h d start end cells out answer new =
    RoutePromise (sizes w h d) cells start end out answer.refusal answer.bad answer.count new

-- Refused by 1, 2, 4, 5, 9, 3. Else a byte for each node stands in front, 1 exactly where preferred steps towards the end lead from the start to it, and
-- `count` of them are 1. The end's is 1 exactly if a path joins the two.
abbrev pub dk_reached : (w h d start end : ℕ) (cells out : List ℕ) → CountedAnswer → List ℕ → Type 0
dk_reached w h d start end cells out answer new =
    ReachedPromise (sizes w h d) cells start end out answer.refusal answer.bad answer.count new

-- ---- the talking nodes (talk/specs/Calls.antt; what many calls do together: talk/specs/Promise.antt)

-- Refused by 1, 2, 4, 5. Else the bytes are a sound state of the map in which nodes know failed neighbours alone.
abbrev pub dk_fresh : (w h d orientation : ℕ) (cells state : List ℕ) → DoneAnswer → List ℕ → Type 0
dk_fresh w h d orientation cells state answer new = FreshCall (sizes w h d) cells orientation state answer.refusal answer.bad new

-- Refused by 1, 2, 5, 6. So it is granted exactly if sizes, length and orientation are in order and the state is sound.
abbrev pub dk_sound : (w h d orientation : ℕ) (state : List ℕ) → DoneAnswer → Type 0
dk_sound w h d orientation state answer = SoundCall (sizes w h d) orientation state answer.refusal answer.bad

-- Refused by 1, 2, 5, 6. Else `count` is the number of ordered pairs of a working listener and a working neighbour whose own byte differs from the
-- word heard.
abbrev pub dk_outstanding : (w h d orientation : ℕ) (state : List ℕ) → CountedAnswer → Type 0
dk_outstanding w h d orientation state answer = OutstandingCall (sizes w h d) orientation state answer.refusal answer.bad answer.count

-- Refused by 1, 2, 5, 6, 7, 8. Else the byte heard from that direction has the word's marks added, the listener's own byte is by the rule, and no other
-- byte has changed.
abbrev pub dk_hear : (w h d orientation listener direction word : ℕ) (state : List ℕ) → DoneAnswer → List ℕ → Type 0
dk_hear w h d orientation listener direction word state answer new =
    HearCall (sizes w h d) orientation listener direction word state answer.refusal answer.bad new

-- ---- map files (format/specs/Promise.antt)

-- Refused by 11, 1, 11, 3, 4. Else the file is one of a map, whose sizes are `w`, `h`, `d` and whose cells stand in front.
abbrev pub dk_read_map : (file cells : List ℕ) → MapAnswer → List ℕ → Type 0
dk_read_map file cells answer new = Reads file cells answer.refusal answer.bad answer.w answer.h answer.d new

-- Refused by 1, 2, 4, 3. Else `count` bytes stand in front, a file of the map without notes.
abbrev pub dk_write_map : (w h d : ℕ) (cells out : List ℕ) → CountedAnswer → List ℕ → Type 0
dk_write_map w h d cells out answer new = Writes (sizes w h d) cells out answer.refusal answer.bad answer.count new
