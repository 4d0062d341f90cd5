-- The text for one transfer: granted with its route, or refused with the reason and, where there is no path, a picture. Assumes nothing.
use Rattle.std.specs.Prelude.{Bool, cond, List, [], ◌∷◌, ◌++◌, ℕ, ◌+◌, eqb, get_or, Ok, Err, Result}
use Rattle.mesh.specs.Mesh.{place_of}
use Rattle.mesh.specs.Cells.{map_of}
use Rattle.mesh.specs.Answers.{refusal_no}
use Rattle.mesh.specs.declared.Sizes.{Sizes}
use Rattle.mesh.specs.declared.Refusal.{Refusal}
use Rattle.paths.specs.Offered.{route}
use Rattle.paths.specs.Entries.{verdict_answer}
use Rattle.text.specs.Text.{ascii, told, pieces}
use Rattle.picture.specs.Picture.{picture}
use Rattle.transfers.specs.Words.{reason_line}
use Rattle.paths.specs.declared.Grant.{Grant}

-- a transfer that is granted: its hops, and the nodes of its route
unfoldable pub granted_text : ℕ → List ℕ → List ℕ
granted_text h nodes =
    told (ascii ": granted, hops %, route") (h ∷ []) ++ pieces (λ i. told (ascii " %") (get_or nodes i 0 ∷ [])) (h + 1) ++ ascii "\n"

-- one that is refused: the reason in words, and where there is no path then a picture
abbrev pub no_path : Refusal → Bool
no_path r = eqb (refusal_no r) 10

unfoldable pub refused_text : Sizes → List ℕ → ℕ → ℕ → Refusal → List ℕ
refused_text S cells s e r = reason_line (ascii ": refused ") r ++ cond (no_path r) (picture (map_of S cells) s e) []

abbrev pub verdict_text : Sizes → List ℕ → ℕ → ℕ → Result Grant Refusal → List ℕ
verdict_text S cells s e (Ok g) = granted_text g.hops (route (map_of S cells) (place_of S e) (place_of S s))
verdict_text S cells s e (Err r) = refused_text S cells s e r

-- a transfer, on line k
abbrev pub transfer_text : Sizes → List ℕ → ℕ → ℕ → ℕ → List ℕ
transfer_text S cells k s e = told (ascii "line %: % to %") (k ∷ s ∷ e ∷ []) ++ verdict_text S cells s e (verdict_answer S cells s e)
