-- The audit of a log: the text for each of its lines, and the totals. Assumes nothing.
use Rattle.std.specs.Prelude.{cond, List, [], ◌∷◌, ℕ, ◌+◌, ◌≤◌, Ok, Err, Result}
use Rattle.mesh.specs.declared.Sizes.{Sizes}
use Rattle.paths.specs.Entries.{verdict_answer}
use Rattle.text.specs.Text.{ascii, told}
use Rattle.logfile.specs.Log.{lines_of, entry_of}
use Rattle.transfers.specs.Transfer.{no_path, transfer_text}
use Rattle.logfile.specs.declared.Entry.{Entry}
use Rattle.logfile.specs.declared.Entry.TheVariants.{Nothing, Transfer, NoPair}
use Rattle.audit.specs.declared.Totals.{Totals}
use Rattle.mesh.specs.declared.Refusal.{Refusal}
use Rattle.paths.specs.declared.Grant.{Grant}

-- a line that is no pair of numbers is told with its number
abbrev pub no_pair_text : ℕ → List ℕ
no_pair_text k = told (ascii "line %: no pair of numbers\n") (k ∷ [])

abbrev pub entry_text : Sizes → List ℕ → ℕ → Entry → List ℕ
entry_text S cells k Nothing = []
entry_text S cells k (Transfer s e) = transfer_text S cells k s e
entry_text S cells k NoPair = no_pair_text k

-- one line more, which counts in one of four ways
abbrev pub plus : Totals → ℕ → ℕ → ℕ → ℕ → Totals
plus t g p r u = record {
  lines = t.lines + 1;
  granted = t.granted + g;
  pathless = t.pathless + p;
  refused = t.refused + r;
  unread = t.unread + u;
}

abbrev pub judge : Totals → Result Grant Refusal → Totals
judge t (Ok g) = plus t 1 0 0 0
judge t (Err r) = cond (no_path r) (plus t 0 1 0 0) (plus t 0 0 1 0)

abbrev pub tally : Sizes → List ℕ → Totals → Entry → Totals
tally S cells t Nothing = plus t 0 0 0 0
tally S cells t (Transfer s e) = judge t (verdict_answer S cells s e)
tally S cells t NoPair = plus t 0 0 0 1

-- what is said of a line after others with these totals, the first being line 1; and the totals with it
unfoldable pub line_text : Sizes → List ℕ → Totals → List ℕ → List ℕ
line_text S cells t line = entry_text S cells (t.lines + 1) (entry_of line)

unfoldable pub line_totals : Sizes → List ℕ → Totals → List ℕ → Totals
line_totals S cells t line = tally S cells t (entry_of line)

-- the totals of a log
unfoldable pub totals_from : Sizes → List ℕ → Totals → List (List ℕ) → Totals
totals_from S cells t [] = t
totals_from S cells t (l ∷ ls) = totals_from S cells (line_totals S cells t l) ls

abbrev pub nothing_yet : Totals
nothing_yet = record { lines = 0; granted = 0; pathless = 0; refused = 0; unread = 0 }

abbrev pub totals_of : Sizes → List ℕ → List ℕ → Totals
totals_of S cells log = totals_from S cells nothing_yet (lines_of log)

-- at the end come the totals
abbrev pub totals_text : Totals → List ℕ
totals_text t =
    told (ascii "totals: lines %, granted %, refused for no path %, refused otherwise %, no pair of numbers %\n")
    (t.lines ∷ t.granted ∷ t.pathless ∷ t.refused ∷ t.unread ∷ [])

-- no total is above n
pub record Few (t : Totals) (n : ℕ) : Type 0 where
  pub lines_le : t.lines ≤ n
  pub granted_le : t.granted ≤ n
  pub pathless_le : t.pathless ≤ n
  pub refused_le : t.refused ≤ n
  pub unread_le : t.unread ≤ n
