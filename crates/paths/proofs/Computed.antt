-- What a sample's proof opens. `unfolding computed` under a statement about given numbers unfolds every definition, of this crate and of
-- mesh, by which the answers of Entries and the tests of Paths and Offered compute; `refl` then proves it. Assumes nothing.
use Rattle.mesh.specs.Tools.{any, sum, table}
use Rattle.mesh.specs.Mesh.{in_range}
use Rattle.mesh.specs.Steps.{next}
use Rattle.mesh.specs.Cells.{faulty_cell, bad_cell, may_pass, may_end, linked, first_bad}
use Rattle.mesh.specs.Answers.{check_map}
use Rattle.paths.specs.Differences.{preferred, hops, ahead_or_level}
use Rattle.paths.specs.Paths.{may_enter, may_hop, leads_within, leads}
use Rattle.paths.specs.Offered.{offers, offered, lowest, route_within, route, reached, reached_count}
use Rattle.paths.specs.Entries.{check_ends, verdict_check, verdict_answer, route_check, route_answer, route_written, reached_check, reached_answer, reached_written}

unfoldable pub computed : Unit {0}
unfolding any sum table in_range next faulty_cell bad_cell may_pass may_end linked first_bad check_map preferred hops ahead_or_level may_enter
    may_hop leads_within leads offers offered lowest route_within route reached reached_count
    check_ends verdict_check verdict_answer route_check route_answer route_written reached_check reached_answer reached_written
computed = tt
