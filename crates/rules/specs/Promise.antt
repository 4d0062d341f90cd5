-- What is promised of the marks: demand 2, in 01's words, and of the call's numbers. Assumes nothing.
use Rattle.std.specs.Prelude.{Bool, List, [], ◌∷◌, ◌++◌, ◌↔◌, ◌≢◌, ◌≡◌, ℕ, ◌≤◌, T, length, get_or}
use Rattle.mesh.specs.Mesh.{nodes, number, Inside}
use Rattle.mesh.specs.Cells.{map_of, faulty, works}
use Rattle.mesh.specs.Order.{Check, ◌else◌, ◌give◌, map_checks, NamesBad}
use Rattle.rules.specs.Marks.{Kind, Rules, Closed, byte_of, has}
use Rattle.mesh.specs.declared.Sizes.{Sizes}
use Rattle.mesh.specs.declared.Place.{Place}

-- the marks that bytes hold
abbrev pub marks_in : Sizes → List ℕ → Kind → Place → Bool
marks_in S bytes k p = has (get_or bytes (number S p) 0) k

-- The marks written into `new`, which was `old`, are the least and only solution of 01's rules, and each byte says no more than its node's marks.
pub record Marked (S : Sizes) (cells : List ℕ) (o : ℕ) (old new : List ℕ) : Type 0 where
  -- "1 faulty", and else the two marks
  pub one : (p : Place) → Inside S p → (get_or new (number S p) 0 ≡ 1) ↔ T (faulty (map_of S cells) p)
  pub byte : (p : Place) → Inside S p → T (works (map_of S cells) p) → get_or new (number S p) 0 ≡ byte_of λ k. marks_in S new k p
  -- the rules hold of the marks written
  pub rules : Rules (map_of S cells) o (marks_in S new)
  -- no other marks satisfy them
  pub only : (marks : Kind → Place → Bool) → Rules (map_of S cells) o marks → (k : Kind) (p : Place) → Inside S p → marks k p ≡ marks_in S new k p
  -- marks that leave out no node which a rule marks have all that are written
  pub least : (marks : Kind → Place → Bool) → Closed (map_of S cells) o marks
      → (k : Kind) (p : Place) → Inside S p → T (marks_in S new k p) → T (marks k p)
  -- "longer outputs keep their remaining places"
  pub kept : (k : ℕ) → nodes S ≤ k → get_or new k 0 ≡ get_or old k 0
  pub size : length new ≡ length old

-- the checks of the call, with so much room: a map (1, 2, 4), an orientation (5), room (3)
abbrev pub marks_checks : Sizes → List ℕ → ℕ → ℕ → List Check
marks_checks S cells o room = map_checks S cells ++ (o ≤ 7) else 5 ∷ (nodes S ≤ room) else 3 ∷ []

-- The call for the marks, in its numbers: the bytes `old` are lent, and are `new` when it returns.
pub record MarksPromise (S : Sizes) (cells : List ℕ) (o : ℕ) (old : List ℕ) (refusal bad : ℕ) (new : List ℕ) : Type 0 where
  -- refused by the first of 1, 2, 4, 5 and 3 whose cause there is, and granted exactly if there is none;
  pub order : marks_checks S cells o (length old) give refusal
  pub names_bad : NamesBad S cells refusal bad
  -- then the marks stand in front; and "No lent byte changes" on a refusal.
  pub marked : refusal ≡ 0 → Marked S cells o old new
  pub nothing : refusal ≢ 0 → new ≡ old
