-- The definitions on samples, by computation. Assumes nothing.
use mathlib.Core.Path.{◌≡◌, refl}
use mathlib.Core.List.{◌∷◌, ◌++◌}
use lib.ListN.{replicate}
use Rattle.mesh.specs.Tools.{any, sum, table}
use Rattle.mesh.specs.Mesh.{sizes, in_range}
use Rattle.mesh.specs.Steps.{next}
use Rattle.mesh.specs.Cells.{faulty_cell, bad_cell, may_pass, may_end, linked, first_bad}
use Rattle.mesh.specs.Answers.{check_map}
use Rattle.paths.specs.Differences.{preferred, hops}
use Rattle.paths.specs.Paths.{may_enter, may_hop, leads_within, leads}
use Rattle.paths.specs.Offered.{offers, offered, reached}
use Rattle.paths.specs.Entries.{check_ends, verdict_check, verdict_answer}
use Rattle.text.specs.Text.{ascii, decimal_within, told, pieces}
use Rattle.logfile.specs.Log.{lines_of}
use Rattle.transfers.specs.Words.{reasons, reason_line}
use Rattle.picture.specs.Picture.{told_wide, symbol_of, symbols, row_text, layer_head, layer_text, way_text, ends_text, picture}
use Rattle.transfers.specs.Transfer.{refused_text, transfer_text}

-- "Map P is 5 × 5 × 1 with (2,1) and (1,2) faulty"; 01's case 4, 6 to 24, as it is printed
pub case_4 : transfer_text (sizes 5 5 1) (replicate 7 0 ++ 1 ∷ 0 ∷ 0 ∷ 0 ∷ 1 ∷ replicate 13 0) 5 6 24
    ≡ ascii "line 5: 6 to 24: refused 10: no path\n"
    ++ ascii "  S is at (1, 1, 0), E at (4, 4, 0); steps towards the end: +x +y\n"
    ++ ascii "  layer z 0\n"
    ++ ascii "    x       1  2  3  4\n"
    ++ ascii "    y  1    S  #  .  .   nodes 6 to 9\n"
    ++ ascii "    y  2    #  .  .  .   nodes 11 to 14\n"
    ++ ascii "    y  3    .  .  .  .   nodes 16 to 19\n"
    ++ ascii "    y  4    .  .  .  E   nodes 21 to 24\n"
unfolding any sum table in_range next faulty_cell bad_cell may_pass may_end linked first_bad check_map preferred hops may_enter may_hop leads_within leads
    offers offered reached check_ends verdict_check verdict_answer decimal_within told lines_of pieces told_wide reasons reason_line symbol_of symbols
    row_text layer_head layer_text way_text ends_text picture refused_text
case_4 = refl
