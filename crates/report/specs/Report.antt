-- 01, the program `meshreport`: the text that it prints for the bytes that it is given. Assumes nothing.
use Rattle.std.specs.Prelude.{cond, List, [], ◌∷◌, ◌++◌, ℕ, zero, suc, eqb, Ok, Err, Result}
use Rattle.mesh.specs.Cells.{Map, map_of}
use Rattle.mesh.specs.Answers.{refusal_no}
use Rattle.mesh.specs.declared.Sizes.{Sizes}
use Rattle.rules.specs.Marks.{useless, cant_reach, marks_of}
use Rattle.touching.specs.Components.{how_many}
use Rattle.format.specs.Format.{cells_in}
use Rattle.format.specs.Entry.{read_answer}
use Rattle.text.specs.Text.{ascii, told}
use Rattle.counts.specs.Counts.{faulty_count, marked_count}
use Rattle.report.specs.declared.Figures.{Figures}
use Rattle.mesh.specs.declared.Refusal.{Refusal}

-- all figures of an orientation, with the "number of components"
abbrev pub figures_of : Map → ℕ → Figures
figures_of m o =
    record {
      useless = marked_count m o useless;
      cannot_reach = marked_count m o cant_reach;
      components = how_many m.sizes (marks_of m o);
    }

-- "First line: sizes and count of faulty nodes."
abbrev pub first_line : Sizes → ℕ → List ℕ
first_line S faulty = told (ascii "mesh % % % faulty %\n") (S.w ∷ S.h ∷ S.d ∷ faulty ∷ [])

-- "one line for each orientation .. : working nodes with the useless mark, with the can't-reach mark, number of components"
abbrev pub octant_line : ℕ → Figures → List ℕ
octant_line o f =
    told (ascii "octant % useless % cannot-reach % components %\n") (o ∷ f.useless ∷ f.cannot_reach ∷ f.components ∷ [])

-- "(0 to 3 if flat, else 0 to 7)": how many orientations have a line
unfoldable pub orientations : Sizes → ℕ
orientations S = cond (eqb S.d 1) 4 8

unfoldable pub octant_lines : Map → ℕ → List ℕ
octant_lines m zero = []
octant_lines m (suc o) = octant_lines m o ++ octant_line o (figures_of m o)

abbrev pub map_report : Map → List ℕ
map_report m = first_line m.sizes (faulty_count m) ++ octant_lines m (orientations m.sizes)

-- "A refusal prints `refused` and its number, alone."
abbrev pub refusal_line : ℕ → List ℕ
refusal_line n = told (ascii "refused %\n") (n ∷ [])

abbrev pub report_on : Result Sizes Refusal → List ℕ → List ℕ
report_on (Ok S) cells = map_report (map_of S cells)
report_on (Err r) cells = refusal_line (refusal_no r)

-- the report on a file, whose cells are read into room for the largest mesh
abbrev pub most_nodes : ℕ
most_nodes = 4096

unfoldable pub report : List ℕ → List ℕ
report file = report_on (read_answer file most_nodes) (cells_in file)
