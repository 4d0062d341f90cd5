-- The text that is printed for the bytes of a map file. Assumes nothing.
use Rattle.std.specs.Prelude.{cond, List, [], ◌∷◌, ◌++◌, ℕ, zero, suc, leb, Ok, Err, Result}
use Rattle.mesh.specs.Cells.{Map, map_of}
use Rattle.mesh.specs.Answers.{refusal_no}
use Rattle.format.specs.Format.{cells_in}
use Rattle.format.specs.Entry.{read_answer}
use Rattle.text.specs.Text.{ascii, told}
use Rattle.counts.specs.Counts.{faulty_count}
use Rattle.report.specs.Report.{first_line, orientations, refusal_line, most_nodes}
use Rattle.talk.specs.Promise.{workers, enough_rounds}
use Rattle.rounds.specs.Rounds.{lossy_rounds}
use Rattle.rounds.specs.Figures.{outstanding_after, marks_after, settled_at}
use Rattle.mesh.specs.declared.Refusal.{Refusal}
use Rattle.mesh.specs.declared.Sizes.{Sizes}

-- which rounds have loss
abbrev pub legend : List ℕ
legend = told (ascii "rounds 1 to % lose, repeat, delay and reorder words\n") (lossy_rounds ∷ [])

-- how much news is outstanding and how many marks are held after r rounds: the fresh state is round 0, and one without loss is a full round
abbrev pub round_form : ℕ → List ℕ
round_form r = cond (leb r lossy_rounds) (ascii "round % outstanding % marks %\n") (ascii "full round % outstanding % marks %\n")

unfoldable pub round_line : ℕ → ℕ → ℕ → List ℕ
round_line r news marks = told (round_form r) (r ∷ news ∷ marks ∷ [])

unfoldable pub round_lines : Map → ℕ → ℕ → List ℕ
round_lines m o zero = []
round_lines m o (suc r) = round_lines m o r ++ round_line r (outstanding_after m o r) (marks_after m o r)

-- an orientation: how many nodes work, the rounds, and when they settled against the bound 2 × W + 1
abbrev pub start_line : ℕ → ℕ → List ℕ
start_line o w = told (ascii "octant % working %\n") (o ∷ w ∷ [])

abbrev pub settled_line : ℕ → ℕ → List ℕ
settled_line r most = told (ascii "settled after round %; % full rounds always settle\n") (r ∷ most ∷ [])

unfoldable pub octant_text : Map → ℕ → List ℕ
octant_text m o = start_line o (workers m) ++ round_lines m o (suc (settled_at m o)) ++ settled_line (settled_at m o) (enough_rounds m)

unfoldable pub octant_texts : Map → ℕ → List ℕ
octant_texts m zero = []
octant_texts m (suc o) = octant_texts m o ++ octant_text m o

abbrev pub map_text : Map → List ℕ
map_text m = first_line m.sizes (faulty_count m) ++ legend ++ octant_texts m (orientations m.sizes)

-- the text for a file, as of the report: a refusal is alone
abbrev pub text_on : Result Sizes Refusal → List ℕ → List ℕ
text_on (Ok S) cells = map_text (map_of S cells)
text_on (Err r) cells = refusal_line (refusal_no r)

unfoldable pub gossip : List ℕ → List ℕ
gossip file = text_on (read_answer file most_nodes) (cells_in file)
