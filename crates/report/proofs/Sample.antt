-- 01's sample of the report, and one of a refusal, by computation from the definitions. Assumes nothing.
use mathlib.Core.Path.{◌≡◌, refl}
use mathlib.Core.List.{List, [], ◌∷◌, ◌++◌}
use Prim.Native.Nat.{ℕ}
use lib.ListN.{replicate}
use Rattle.mesh.specs.Tools.{all, sum, table}
use Rattle.mesh.specs.Mesh.{sizes, in_range}
use Rattle.mesh.specs.Steps.{next}
use Rattle.mesh.specs.Cells.{faulty_cell, bad_cell, wall, first_bad}
use Rattle.rules.specs.Marks.{rule, marked, stuck_within, stuck, byte_of, mark_at, marks_of}
use Rattle.touching.specs.Lists.{any_of, keep, least}
use Rattle.touching.specs.Touch.{unsafe_nodes, touch, grown, component}
use Rattle.touching.specs.Components.{lowest, lowest_nodes, how_many}
use Rattle.format.specs.Format.{trailer, file_of, has_mark, cells_in}
use Rattle.format.specs.Entry.{check_frame, check_trailer, read_check, read_answer}
use Rattle.text.specs.Text.{ascii, decimal_within, told}
use Rattle.counts.specs.Counts.{faulty_count, marked_count}
use Rattle.report.specs.Report.{orientations, octant_lines, report}

-- "Map P is 5 × 5 × 1 with (2,1) and (1,2) faulty"; "P's file of 37 bytes"
abbrev cells_p : List ℕ
cells_p = replicate 7 0 ++ 1 ∷ 0 ∷ 0 ∷ 0 ∷ 1 ∷ replicate 13 0

abbrev file_p : List ℕ
file_p = file_of (sizes 5 5 1) cells_p

pub report_of_P : report file_p
    ≡ ascii "mesh 5 5 1 faulty 2\n"
    ++ ascii "octant 0 useless 1 cannot-reach 1 components 1\n"
    ++ ascii "octant 1 useless 0 cannot-reach 0 components 1\n"
    ++ ascii "octant 2 useless 0 cannot-reach 0 components 1\n"
    ++ ascii "octant 3 useless 1 cannot-reach 1 components 1\n"
unfolding all sum table in_range next faulty_cell bad_cell wall first_bad rule marked stuck_within stuck byte_of mark_at marks_of
    any_of keep least unsafe_nodes touch grown component lowest lowest_nodes how_many
    trailer has_mark cells_in check_frame check_trailer read_check read_answer decimal_within
    told faulty_count marked_count orientations octant_lines report
report_of_P = refl

pub report_of_nothing : report [] ≡ ascii "refused 11\n"
unfolding has_mark check_frame check_trailer read_check read_answer decimal_within told report
report_of_nothing = refl
