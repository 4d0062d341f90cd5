-- The first byte that stops is the one that std finds. Assumes nothing.
use mathlib.Core.Path.{◌≡◌, refl, ap, ◌∙◌}
use mathlib.Core.Bool.{Bool, true, false, cond, not}
use mathlib.Core.List.{List, [], ◌∷◌}
use Prim.Native.Nat.{ℕ, suc, ◌+◌}
use native.Mathlib.Omega.{arith}
use borrow.Author.Tests.{ltb-false}
use lib.Dec.{ltb}
use lib.ListN.{length}
use Rattle.std.specs.Prelude.{Option, Some, None, unwrap_or}
use Rattle.std.specs.List.{position_or_len}
use Rattle.mesh.specs.Cells.{first_bad}
use Rattle.mesh.proofs.Answers.{first_le}

first_found : (stop : ℕ → Bool) (text : List ℕ) → position_or_len stop text ≡ first_bad (λ k. stop) text
unfolding first_bad
first_found stop [] = refl
first_found stop (b ∷ text) = go (stop b) (first_found stop text)
  where
    go : (t : Bool) {n k : ℕ} → n ≡ k → cond (not t) (1 + n) 0 ≡ cond t 0 (suc k)
    go true e = refl
    go false e = omega arith

pub stop_found : (stop : ℕ → Bool) (text : List ℕ) (r : Option ℕ)
    → r ≡ cond (ltb (position_or_len stop text) (length text)) (Some (position_or_len stop text)) None
    → unwrap_or r (length text) ≡ first_bad (λ k. stop) text
stop_found stop text r e =
    ap (λ (o : Option ℕ). unwrap_or o (length text)) e
    ∙ go (ltb (position_or_len stop text) (length text)) refl
  where
    go : (t : Bool) → ltb (position_or_len stop text) (length text) ≡ t
        → unwrap_or (cond t (Some (position_or_len stop text)) None) (length text) ≡ first_bad (λ k. stop) text
    go true e = first_found stop text
    go false e =
        omega (arith, ltb-false (position_or_len stop text) (length text) e, first_found stop text, first_le (λ k. stop) text)
