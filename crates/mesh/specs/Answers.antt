-- 01, "Refusal numbers", and the answers of the calls on places. Assumes nothing.
use Rattle.std.specs.Prelude.{Bool, cond, List, ℕ, length, ltb, leb, eqb, Ok, Err, Some, None, Result, Option}
use Rattle.mesh.specs.Mesh.{in_range, nodes, inside, number, place, place_of}
use Rattle.mesh.specs.Steps.{next}
use Rattle.mesh.specs.Cells.{bad_cell, first_bad}
use Rattle.mesh.specs.declared.Sizes.{Sizes}
use Rattle.mesh.specs.declared.Place.{Place}
use Rattle.mesh.specs.declared.Refusal.{Refusal}
use Rattle.mesh.specs.declared.Refusal.TheVariants.{BadSizes, BadLength, NoRoom, BadCell, BadNumber, Unsound, NoPair, NotHeld, FaultyEnd, NoPath, BadFile}

-- the number of a refusal
abbrev pub refusal_no : Refusal → ℕ
refusal_no BadSizes = 1
refusal_no BadLength = 2
refusal_no NoRoom = 3
refusal_no (BadCell k) = 4
refusal_no BadNumber = 5
refusal_no Unsound = 6
refusal_no NoPair = 7
refusal_no NotHeld = 8
refusal_no FaultyEnd = 9
refusal_no NoPath = 10
refusal_no BadFile = 11

-- "4 returns the node number of the first bad cell", and every other refusal 0
abbrev pub refusal_bad : Refusal → ℕ
refusal_bad BadSizes = 0
refusal_bad BadLength = 0
refusal_bad NoRoom = 0
refusal_bad (BadCell k) = k
refusal_bad BadNumber = 0
refusal_bad Unsound = 0
refusal_bad NoPair = 0
refusal_bad NotHeld = 0
refusal_bad FaultyEnd = 0
refusal_bad NoPath = 0
refusal_bad BadFile = 0

-- what a call without a value answers, and what a check finds
abbrev pub Answer : Type 0
Answer = Result (Unit {0}) Refusal

abbrev pub accepted : Answer
accepted = Ok tt

-- a call's answer with its value: a number, a place, a step
abbrev pub answered : {A : Type 0} → Answer → A → Result A Refusal
answered (Ok _) a = Ok a
answered (Err r) a = Err r

-- "A granted call returns number 0 with its values. A refusal returns its number and 0 for every value."
abbrev pub answer_no : {A : Type 0} → Result A Refusal → ℕ
answer_no (Ok a) = 0
answer_no (Err r) = refusal_no r

abbrev pub answer_bad : {A : Type 0} → Result A Refusal → ℕ
answer_bad (Ok a) = 0
answer_bad (Err r) = refusal_bad r

abbrev pub answer_value : Answer → ℕ → ℕ
answer_value (Ok _) v = v
answer_value (Err r) v = 0

abbrev pub numbered_value : Result ℕ Refusal → ℕ
numbered_value (Ok n) = n
numbered_value (Err r) = 0

abbrev pub placed_at : Result Place Refusal → Place
placed_at (Ok p) = p
placed_at (Err r) = place 0 0 0

-- "the next place, or says that the mesh ends there": 1 or 0
abbrev pub stepped_there : Result (Option Place) Refusal → ℕ
stepped_there (Ok (Some q)) = 1
stepped_there (Ok None) = 0
stepped_there (Err r) = 0

abbrev pub stepped_at : Result (Option Place) Refusal → Place
stepped_at (Ok (Some q)) = q
stepped_at (Ok None) = place 0 0 0
stepped_at (Err r) = place 0 0 0

-- "No lent byte changes" on a refusal: new where the call is granted, else old
abbrev pub granted : {A : Type 0} → Answer → List A → List A → List A
granted (Ok _) new old = new
granted (Err r) new old = old

infixl 20 ◌and_then◌
-- "Checks run in the order": the first refusal stands
abbrev pub ◌and_then◌ : Answer → Answer → Answer
(Ok _) and_then b = b
(Err r) and_then b = Err r

-- refused by r unless the test holds
abbrev pub unless : Bool → Refusal → Answer
unless ok r = cond ok accepted (Err r)

-- the checks: sizes, cells, numbers, room
abbrev pub check_sizes : Sizes → Answer
check_sizes S = unless (in_range S) BadSizes

abbrev pub check_cells : Sizes → List ℕ → Answer
check_cells S cells = cond (ltb (first_bad (bad_cell S) cells) (length cells)) (Err (BadCell (first_bad (bad_cell S) cells))) accepted

-- a map: 1, 2, 4
unfoldable pub check_map : Sizes → List ℕ → Answer
check_map S cells = check_sizes S and_then unless (eqb (length cells) (nodes S)) BadLength and_then check_cells S cells

abbrev pub check_orientation : ℕ → Answer
check_orientation o = unless (leb o 7) BadNumber

abbrev pub check_node : Sizes → ℕ → Answer
check_node S k = unless (ltb k (nodes S)) BadNumber

abbrev pub check_place : Sizes → Place → Answer
check_place S p = unless (inside S p) BadNumber

abbrev pub check_direction : ℕ → Answer
check_direction j = unless (leb j 5) BadNumber

abbrev pub check_room : ℕ → ℕ → Answer
check_room need room = unless (leb need room) NoRoom

-- the calls on places: the number of a place, the place of a node, a step
unfoldable pub number_answer : Sizes → Place → Result ℕ Refusal
number_answer S p = answered (check_sizes S and_then check_place S p) (number S p)

unfoldable pub place_answer : Sizes → ℕ → Result Place Refusal
place_answer S k = answered (check_sizes S and_then check_node S k) (place_of S k)

unfoldable pub step_answer : Sizes → Place → ℕ → Result (Option Place) Refusal
step_answer S p j = answered (check_sizes S and_then check_place S p and_then check_direction j) (next S p j)
