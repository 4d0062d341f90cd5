-- What a sample's proof opens. `unfolding computed` under a statement about given numbers unfolds every definition, of this crate, rules
-- and mesh, by which the answers of Entries and the states after calls compute; `refl` then proves it. Assumes nothing.
use Rattle.mesh.specs.Tools.{all, sum, table}
use Rattle.mesh.specs.Mesh.{in_range}
use Rattle.mesh.specs.Steps.{next}
use Rattle.mesh.specs.Cells.{faulty_cell, bad_cell, wall, linked, first_bad}
use Rattle.rules.specs.Marks.{rule, byte_of, has, is_word, byte_blocks, rule_byte}
use Rattle.mesh.specs.Answers.{check_map}
use Rattle.talk.specs.State.{cells_in, pair}
use Rattle.talk.specs.Sound.{within, faulty_hears, working_right, faulty_right, node_right, sound_on, sound, fresh_heard, fresh_own, fresh}
use Rattle.talk.specs.Hear.{add_marks, added, ruled_at, changed, outstanding_on, outstanding}
use Rattle.talk.specs.Entries.{check_state, fresh_answer, sound_answer, outstanding_answer, hear_answer}

unfoldable pub computed : Unit {0}
unfolding all sum table in_range next faulty_cell bad_cell wall linked first_bad rule byte_of has is_word byte_blocks rule_byte check_map cells_in pair
    within faulty_hears working_right faulty_right node_right sound_on sound fresh_heard fresh_own fresh add_marks added ruled_at changed outstanding_on
    outstanding check_state fresh_answer sound_answer outstanding_answer hear_answer
computed = tt
