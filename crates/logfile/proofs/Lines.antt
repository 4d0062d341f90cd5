-- The lines of a text, one after another: the first and the rest, and line i where the lines passed are the first i. Assumes nothing.
use mathlib.Core.Path.{◌≡◌, refl, sym, ap, ◌∙◌}
use mathlib.Core.Bool.{Bool, true, false, cond}
use mathlib.Core.List.{List, [], ◌∷◌}
use Prim.Native.Nat.{ℕ, suc, ◌+◌, ◌≤◌, ◌<◌}
use native.Mathlib.Omega.{arith}
use borrow.Author.Tests.{ltb-true, ltb-false}
use lib.Dec.{eqb, ltb}
use lib.ListN.{length, get_or, take, drop, length-drop}
use lib.Seq.{length-take-le, drop-cons, drop-drop}
use Rattle.mesh.specs.Cells.{first_bad}
use Rattle.mesh.proofs.Answers.{first_le}
use Rattle.logfile.specs.Log.{stops, before, up_to, into_first, lines_of}
use Rattle.logfile.specs.declared.Stop.TheVariants.{Feed}

-- a line, and what follows its line feed
abbrev Next : List ℕ → Type 0
Next l = lines_of l ≡ up_to Feed l ∷ lines_of (drop (before Feed l + 1) l)

after : (b n : ℕ) (l : List ℕ) → drop (n + 1) l ≡ drop (suc n + 1) (b ∷ l)
after b n l = let e : suc (n + 1) ≡ suc n + 1 = omega arith in ap (λ (k : ℕ). drop k (b ∷ l)) e

lines_next : (b : ℕ) (bs : List ℕ) → Next (b ∷ bs)
unfolding lines_of first_bad
lines_next b [] = go (eqb b 10)
  where
    go : (t : Bool) → cond t ([] ∷ []) ((b ∷ []) ∷ []) ≡ take (cond t 0 1) (b ∷ []) ∷ lines_of (drop (cond t 0 1 + 1) (b ∷ []))
    go true = refl
    go false = refl
lines_next b (d ∷ l) = go (eqb b 10) (lines_next d l)
  where
    go : (t : Bool) → Next (d ∷ l) → cond t ([] ∷ lines_of (d ∷ l)) (into_first b (lines_of (d ∷ l)))
        ≡ take (cond t 0 (suc (before Feed (d ∷ l)))) (b ∷ d ∷ l) ∷ lines_of (drop (cond t 0 (suc (before Feed (d ∷ l))) + 1) (b ∷ d ∷ l))
    go true h = refl
    go false h = ap (into_first b) h ∙ ap (λ (r : List ℕ). (b ∷ up_to Feed (d ∷ l)) ∷ lines_of r) (after b (before Feed (d ∷ l)) (d ∷ l))

pub lines_from : (l : List ℕ) → 0 < length l → lines_of l ≡ up_to Feed l ∷ lines_of (drop (before Feed l + 1) l)
lines_from [] h = absurd (omega arith)
lines_from (b ∷ bs) h = lines_next b bs

-- an empty text has no line
pub no_line : (l : List ℕ) → length l ≡ 0 → lines_of l ≡ []
unfolding lines_of
no_line [] h = refl
no_line (b ∷ bs) h = absurd (omega arith)

-- a line is no longer than the text, and what follows it is shorter
pub line_within : (l : List ℕ) → length (up_to Feed l) ≤ length l
line_within l = omega (arith, length-take-le (before Feed l) l (first_le (λ k. stops Feed) l), first_le (λ k. stops Feed) l)

pub rest_shorter : (l : List ℕ) → 0 < length l → length (drop (before Feed l + 1) l) < length l
rest_shorter l h = omega (arith, length-drop (before Feed l + 1) l)

-- line i of a text, where the lines of the rest are those from line i on
module _ (text rest : List ℕ) (i : ℕ) (ahead : lines_of rest ≡ drop i (lines_of text)) (left : i < length (lines_of text)) where
  some : 0 < length rest
  some = go (ltb 0 (length rest)) refl
    where
      go : (t : Bool) → ltb 0 (length rest) ≡ t → 0 < length rest
      go true e = ltb-true 0 (length rest) e
      go false e =
          let empty : length rest ≤ 0 = ltb-false 0 (length rest) e in
          let none : drop i (lines_of text) ≡ [] = sym ahead ∙ no_line rest (omega arith) in
          absurd (omega (arith, length-drop i (lines_of text), ap length none))

  pub line_passed : lines_of (drop (before Feed rest + 1) rest) ≡ drop (i + 1) (lines_of text)
  line_passed = ap (drop 1) (sym (lines_from rest some) ∙ ahead) ∙ drop-drop 1 i (lines_of text)

  pub line_is : up_to Feed rest ≡ get_or (lines_of text) i []
  line_is =
      ap (λ (l : List (List ℕ)). get_or l 0 []) (sym (lines_from rest some) ∙ ahead ∙ drop-cons (lines_of text) i [] left)
