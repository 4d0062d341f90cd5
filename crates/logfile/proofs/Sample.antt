-- The definitions on samples, by computation. Assumes nothing.
use mathlib.Core.Path.{◌≡◌, refl}
use mathlib.Core.List.{[], ◌∷◌}
use Rattle.mesh.specs.Cells.{first_bad}
use Rattle.text.specs.Text.{ascii}
use Rattle.logfile.specs.Log.{blank, digit, read_from, number_of, entry_of}
use Rattle.logfile.specs.declared.Entry.TheVariants.{Nothing, Transfer, NoPair}

-- what is a pair of numbers, what says nothing, and what is neither
pub entries : (entry_of (ascii "0 24") ∷ entry_of (ascii "\t6\t24 # case 4\r") ∷ entry_of (ascii "007 4294967295") ∷ [])
    ≡ (Transfer 0 24 ∷ Transfer 6 24 ∷ Transfer 7 4294967295 ∷ [])
unfolding first_bad blank digit read_from number_of entry_of
entries = refl

pub skipped : (entry_of [] ∷ entry_of (ascii " \t\r") ∷ entry_of (ascii "# 0 24") ∷ entry_of (ascii "  # case 4") ∷ [])
    ≡ (Nothing ∷ Nothing ∷ Nothing ∷ Nothing ∷ [])
unfolding first_bad blank digit read_from number_of entry_of
skipped = refl

pub no_pairs : (entry_of (ascii "24") ∷ entry_of (ascii "0 24 6") ∷ entry_of (ascii "0-24") ∷ entry_of (ascii "0 x4") ∷ entry_of (ascii "0 4294967296") ∷ [])
    ≡ (NoPair ∷ NoPair ∷ NoPair ∷ NoPair ∷ NoPair ∷ [])
unfolding first_bad blank digit read_from number_of entry_of
no_pairs = refl
