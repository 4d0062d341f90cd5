-- 01, "Components": which nodes touch, and which are joined by touching. A node is unsafe by its mark byte, so all is said of a list of mark bytes.
-- Assumes nothing.
use Rattle.std.specs.Prelude.{Bool, not, ◌&&◌, ◌||◌, List, ℕ, zero, suc, ◌+◌, ◌-◌, length, get_or, T, eqb, leb}
use Rattle.mesh.specs.Tools.{between, table}
use Rattle.mesh.specs.Mesh.{Axis, X, Y, Z, on, every, place_of}
use Rattle.mesh.specs.declared.Sizes.{Sizes}
use Rattle.mesh.specs.declared.Place.{Place}
use Rattle.touching.specs.Lists.{any_of, is_in, keep}

-- "A node is unsafe if its byte is not 0."
abbrev pub unsafe : List ℕ → ℕ → Bool
unsafe marks k = not (eqb (get_or marks k 0) 0)

-- the unsafe nodes, ascending
unfoldable pub unsafe_nodes : List ℕ → List ℕ
unsafe_nodes marks = keep (unsafe marks) (table (λ k. k) (length marks))

-- by how much two places differ on an axis
abbrev pub apart : Place → Place → Axis → ℕ
apart p q a = on p a - on q a + (on q a - on p a)

-- "Two unsafe nodes touch if their coordinates differ by 1 on one or two axes and by 0 on the others."
unfoldable pub touch : Place → Place → Bool
touch p q = every (λ a. leb (apart p q a) 1) && between 1 2 (apart p q X + apart p q Y + apart p q Z)

abbrev pub touching : Sizes → ℕ → ℕ → Bool
touching S a b = touch (place_of S a) (place_of S b)

-- "A component is a set of unsafe nodes joined by touching": b is joined to a if a chain of unsafe nodes, each touching the one before, leads
-- from a to b.
pub data Joined (S : Sizes) (marks : List ℕ) (a : ℕ) : ℕ → Type 0 where
  itself : T (unsafe marks a) → Joined S marks a a
  further : {b c : ℕ} → Joined S marks a b → T (touching S b c) → T (unsafe marks c) → Joined S marks a c

-- The same computed. One round adds to some of the unsafe nodes all others that touch one of them; after as many rounds as there are
-- unsafe nodes, "as large as possible".
abbrev pub near : Sizes → List ℕ → ℕ → Bool
near S some k = any_of some λ j. eqb j k || touching S j k

unfoldable pub grown : Sizes → List ℕ → ℕ → ℕ → List ℕ
grown S among a zero = keep (eqb a) among
grown S among a (suc n) = keep (near S (grown S among a n)) among

-- the component of node a, ascending, among these unsafe nodes
unfoldable pub component : Sizes → List ℕ → ℕ → List ℕ
component S among a = grown S among a (length among)

unfoldable pub joined : Sizes → List ℕ → ℕ → ℕ → Bool
joined S marks a b = is_in b (component S (unsafe_nodes marks) a)
