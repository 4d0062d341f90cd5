-- The call for the components, in its numbers: what is promised of every answer, and of what is lent. Assumes nothing.
use Rattle.std.specs.Prelude.{List, [], ◌∷◌, ◌++◌, ◌≢◌, ◌≡◌, ℕ, ◌≤◌, length, take, drop}
use Rattle.mesh.specs.Mesh.{nodes}
use Rattle.mesh.specs.Cells.{map_of}
use Rattle.mesh.specs.Order.{Check, ◌else◌, ◌give◌, map_checks, NamesBad}
use Rattle.mesh.specs.declared.Sizes.{Sizes}
use Rattle.rules.specs.Marks.{marks_of}
use Rattle.touching.specs.Components.{how_many}
use Rattle.touching.specs.Promise.{Promise}
use Rattle.touching.specs.declared.Component.{Component}

-- n components of the marks by the rules, at the front of what was lent; "Longer outputs keep their remaining places."
pub record Grouped (S : Sizes) (cells : List ℕ) (o n : ℕ) (table new_table : List ℕ) (row new_row : List Component) : Type 0 where
  pub front : Promise S (marks_of (map_of S cells) o) n (take (nodes S) new_table) (take n new_row)
  pub table_kept : drop (nodes S) new_table ≡ drop (nodes S) table
  pub row_kept : drop n new_row ≡ drop n row

-- the checks of the call: a map (1, 2, 4), an orientation (5), room in the table and in the row of records (3)
abbrev pub components_checks : Sizes → List ℕ → ℕ → ℕ → ℕ → List Check
components_checks S cells o table_room row_room =
    map_checks S cells ++ (o ≤ 7) else 5 ∷ (nodes S ≤ table_room) else 3 ∷ (how_many S (marks_of (map_of S cells) o) ≤ row_room) else 3 ∷ []

-- The table and the row are lent, and are `new_table` and `new_row` when the call returns; n is the number of components.
pub record ComponentsPromise (S : Sizes) (cells : List ℕ) (o : ℕ) (table : List ℕ) (row : List Component) (refusal bad n : ℕ)
    (new_table : List ℕ) (new_row : List Component) : Type 0 where
  -- refused by the first of 1, 2, 4, 5 and 3 whose cause there is, and granted exactly if there is none;
  pub order : components_checks S cells o (length table) (length row) give refusal
  pub names_bad : NamesBad S cells refusal bad
  -- then "The number of components is returned", and they stand in front; on a refusal it is 0, and neither has changed.
  pub counted : refusal ≡ 0 → n ≡ how_many S (marks_of (map_of S cells) o)
  pub grouped : refusal ≡ 0 → Grouped S cells o n table new_table row new_row
  pub nothing : refusal ≢ 0 → (n ≡ 0) × (new_table ≡ table) × (new_row ≡ row)
