-- The refusals in words. Assumes nothing.
use Rattle.std.specs.Prelude.{List, [], ◌++◌, ℕ, get_or}
use Rattle.mesh.specs.Answers.{refusal_no}
use Rattle.mesh.specs.declared.Refusal.{Refusal}
use Rattle.text.specs.Text.{ascii}
use Rattle.logfile.specs.Log.{lines_of}

-- 01's refusals in words, each on the line of its number, the first line being line 0
unfoldable pub reasons : List ℕ
reasons =
    ascii "0: granted\n"
    ++ ascii "1: a size is outside its range\n"
    ++ ascii "2: the cells are not as many as the nodes\n"
    ++ ascii "3: an output is too short\n"
    ++ ascii "4: a cell is above 1\n"
    ++ ascii "5: the mesh has no node of that number\n"
    ++ ascii "6: the state is not sound\n"
    ++ ascii "7: no such pair of working neighbours\n"
    ++ ascii "8: the speaker lacks a mark of the word\n"
    ++ ascii "9: the start or the end is faulty\n"
    ++ ascii "10: no path\n"
    ++ ascii "11: the file is no map file\n"

abbrev pub reason : Refusal → List ℕ
reason r = get_or (lines_of reasons) (refusal_no r) []

-- a line that ends with a refusal in words
unfoldable pub reason_line : List ℕ → Refusal → List ℕ
reason_line word r = word ++ reason r ++ ascii "\n"
