-- What a call on a file leaves on a page that is lent to it. Assumes nothing.
use Rattle.std.specs.Prelude.{List, [], ◌≡◌, ℕ}
use denote.Param.Members.{Once}
use denote.Ref.{Bor, MutBor}

-- a call of f on this file, and on a blank page, may leave this on the page
pub record Leaves {F : Type 0} (g : Once F (Bor (List ℕ) × (MutBor (List ℕ) × Unit {0})) (Unit {0} × (MutBor (List ℕ) × Unit {0}))) (f : F) (file page : List ℕ) : Type 0 where
  pub asked : Bor (List ℕ)
  pub asks : asked.now ≡ file
  pub lent : MutBor (List ℕ)
  pub is_blank : lent.now ≡ []
  pub left : MutBor (List ℕ)
  pub met : g.post f (asked, (lent, tt)) (tt, (left, tt))
  pub leaves : left.now ≡ page
