-- The calls on a state: what each answers, and what its state then holds, for every input. Assumes nothing.
use Rattle.std.specs.Prelude.{List, ℕ, eqb, length, Result}
use Rattle.mesh.specs.Cells.{map_of, state_length}
use Rattle.rules.specs.Marks.{is_word}
use Rattle.mesh.specs.Answers.{granted, answered, ◌and_then◌, unless, check_sizes, check_map, check_orientation, check_node, check_direction, Answer}
use Rattle.mesh.specs.declared.Sizes.{Sizes}
use Rattle.mesh.specs.declared.Refusal.TheVariants.{BadLength, BadNumber, Unsound, NoPair, NotHeld}
use Rattle.talk.specs.State.{map_in, pair, says}
use Rattle.talk.specs.Sound.{within, sound, fresh}
use Rattle.talk.specs.Hear.{changed, outstanding}
use Rattle.mesh.specs.declared.Refusal.{Refusal}

-- "a state, the room for a fresh one included, not exactly 7 × N": 1, 2, for a state of so many bytes
unfoldable pub check_state : Sizes → ℕ → Answer
check_state S long = check_sizes S and_then unless (eqb long (state_length S)) BadLength

-- making a fresh state in a room of so many bytes: 1, 2, 4, 5
unfoldable pub fresh_answer : Sizes → List ℕ → ℕ → ℕ → Answer
fresh_answer S cells o room = check_state S room and_then check_map S cells and_then check_orientation o

-- the lent bytes as the call returns
abbrev pub fresh_out : Sizes → List ℕ → ℕ → List ℕ → List ℕ
fresh_out S cells o old = granted (fresh_answer S cells o (length old)) (fresh (map_of S cells) o) old

-- "the state is not sound for this orientation": 1, 2, 5, 6
unfoldable pub sound_answer : Sizes → ℕ → List ℕ → Answer
sound_answer S o s = check_state S (length s) and_then check_orientation o and_then unless (sound S o s) Unsound

-- the number of words outstanding: 1, 2, 5, 6
unfoldable pub outstanding_answer : Sizes → ℕ → List ℕ → Result ℕ Refusal
outstanding_answer S o s = answered (sound_answer S o s) (outstanding S s)

-- hearing the word w at node k from direction j: 1, 2, 5, 6, 7, 8
abbrev pub check_word : ℕ → Answer
check_word w = unless (is_word w) BadNumber

unfoldable pub hear_answer : Sizes → ℕ → ℕ → ℕ → ℕ → List ℕ → Answer
hear_answer S o k j w s =
    check_state S (length s)
    and_then check_orientation o
    and_then check_node S k
    and_then check_direction j
    and_then check_word w
    and_then unless (sound S o s) Unsound
    and_then unless (pair (map_in S s) k j) NoPair
    and_then unless (within w (says S s k j)) NotHeld

-- the lent bytes as the call returns
abbrev pub hear_out : Sizes → ℕ → ℕ → ℕ → ℕ → List ℕ → List ℕ
hear_out S o k j w s = granted (hear_answer S o k j w s) (changed S o k j w s) s
