-- 01, "Components", as relations: what is promised of the number of components, the table of numbers and the row of records.
-- proofs/Records.antt shows that the definitions keep it, and that nothing else does. Assumes nothing.
use Rattle.std.specs.Prelude.{not, List, ◌↔◌, ◌≡◌, ℕ, suc, ◌<◌, ◌≤◌, length, get_or, T, eqb}
use Rattle.mesh.specs.Tools.{count}
use Rattle.mesh.specs.Mesh.{Axis, X, Y, Z}
use Rattle.mesh.specs.declared.Sizes.{Sizes}
use Rattle.touching.specs.Touch.{unsafe, Joined}
use Rattle.touching.specs.Components.{coordinate}
use Rattle.touching.specs.declared.Component.{Component}

-- a is the lowest node of its component
pub record Lowest (S : Sizes) (marks : List ℕ) (a : ℕ) : Type 0 where
  pub is_unsafe : T (unsafe marks a)
  pub no_lower : (b : ℕ) → Joined S marks a b → a ≤ b

-- the table numbers n components
pub record Numbers (S : Sizes) (marks : List ℕ) (n : ℕ) (table : List ℕ) : Type 0 where
  -- "one for each node"
  pub size : length table ≡ length marks
  -- "0 for a safe one"
  pub safe : (a : ℕ) → T (not (unsafe marks a)) → get_or table a 0 ≡ 0
  -- "numbered from 1"
  pub in_range : (a : ℕ) → T (unsafe marks a) → (1 ≤ get_or table a 0) × (get_or table a 0 ≤ n)
  pub used : (i : ℕ) → i < n → (a : ℕ) × T (unsafe marks a) × (get_or table a 0 ≡ suc i)
  -- "a set of unsafe nodes joined by touching, as large as possible"
  pub same : (a b : ℕ) → T (unsafe marks a) → T (unsafe marks b) → (get_or table a 0 ≡ get_or table b 0) ↔ Joined S marks a b
  -- "by their lowest node number"
  pub rising : (a b : ℕ) → Lowest S marks a → Lowest S marks b → a < b → get_or table a 0 < get_or table b 0

-- lo and hi are the least and the greatest f of the numbers that `Has` is true of
pub record Bounds (Has : ℕ → Type 0) (f : ℕ → ℕ) (lo hi : ℕ) : Type 0 where
  pub within : (a : ℕ) → Has a → (lo ≤ f a) × (f a ≤ hi)
  pub at_lo : (a : ℕ) × Has a × (f a ≡ lo)
  pub at_hi : (a : ℕ) × Has a × (f a ≡ hi)

-- the "least and greatest coordinate" of the nodes with number i
abbrev pub Extent : Sizes → List ℕ → ℕ → Axis → ℕ → ℕ → Type 0
Extent S table i axis lo hi = Bounds (λ a. get_or table a 0 ≡ i) (coordinate S axis) lo hi

-- the record of the component with number i: "count of nodes, least and greatest coordinate on each axis"
pub record Records (S : Sizes) (table : List ℕ) (i : ℕ) (c : Component) : Type 0 where
  pub members : c.count ≡ count (length table) λ a. eqb (get_or table a 0) i
  pub on_x : Extent S table i X c.x0 c.x1
  pub on_y : Extent S table i Y c.y0 c.y1
  pub on_z : Extent S table i Z c.z0 c.z1

-- the whole answer: n components, the table and the row, "one record for each component"
pub record Promise (S : Sizes) (marks : List ℕ) (n : ℕ) (table : List ℕ) (row : List Component) : Type 0 where
  pub numbers : Numbers S marks n table
  pub one_each : length row ≡ n
  pub records : (i : ℕ) (c : Component) → i < n → Records S table (suc i) (get_or row i c)
