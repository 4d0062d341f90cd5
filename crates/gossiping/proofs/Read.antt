-- The text for a file: that of the map which was read, or the refusal's. Assumes nothing.
use mathlib.Core.Path.{◌≡◌, sym, ap}
use mathlib.Core.List.{List}
use Prim.Native.Nat.{ℕ}
use Rattle.mesh.specs.Cells.{map_of}
use Rattle.mesh.specs.Answers.{refusal_no}
use Rattle.mesh.specs.declared.Sizes.{Sizes}
use Rattle.mesh.specs.declared.Refusal.{Refusal}
use Rattle.format.specs.Format.{cells_in}
use Rattle.format.specs.Entry.{read_answer}
use Rattle.report.specs.Report.{refusal_line, most_nodes}
use Rattle.gossiping.specs.Text.{map_text, text_on, gossip}
use Rattle.std.specs.Prelude.{Ok, Err, Result}

pub map_told : (file : List ℕ) (S : Sizes) → read_answer file most_nodes ≡ Ok S → map_text (map_of S (cells_in file)) ≡ gossip file
unfolding gossip
map_told file S is = sym (ap (λ (a : Result Sizes Refusal). text_on a (cells_in file)) is)

pub refusal_told : (file : List ℕ) (r : Refusal) → read_answer file most_nodes ≡ Err r → refusal_line (refusal_no r) ≡ gossip file
unfolding gossip
refusal_told file r is = sym (ap (λ (a : Result Sizes Refusal). text_on a (cells_in file)) is)
