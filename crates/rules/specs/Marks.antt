-- 01, "The two marks". Assumes nothing.
use Rattle.std.specs.Prelude.{Bool, true, false, cond, not, ◌&&◌, ◌||◌, List, ◌≡◌, ◌↔◌, ℕ, zero, suc, ◌+◌, ◌-◌, ◌*◌, ◌/◌, ◌%◌, ◌<◌, T, eqb, leb, Some, None, Option}
use Rattle.mesh.specs.Tools.{bit, implies, table}
use Rattle.mesh.specs.Mesh.{Axis, X, Y, Z, span, every, place, nodes, place_of, Inside}
use Rattle.mesh.specs.Steps.{next, runs_down, ahead, behind, reversed}
use Rattle.mesh.specs.Cells.{Map, faulty, works, wall}
use Rattle.mesh.specs.declared.Sizes.{Sizes}
use Rattle.mesh.specs.declared.Place.{Place}

-- "An axis counts if its size is 2 or more."
abbrev pub counted : Sizes → Axis → Bool
counted S a = leb 2 (span S a)

-- The rule of both marks, whoever answers "does what lies in direction j block": on every counted axis the direction ahead is blocked.
unfoldable pub rule : Sizes → ℕ → (ℕ → Bool) → Bool
rule S o blocked = every λ a. implies (counted S a) (blocked (ahead o a))

-- What lies one step from p in direction j blocks p if it exists and is faulty or, by `mark`, marked.
-- "A neighbour beyond the mesh's edge blocks nothing."
abbrev pub blocks_by : Map → (Place → Bool) → Place → ℕ → Option Place → Bool
blocks_by m mark p j (Some q) = wall m p j q || mark q
blocks_by m mark p j None = false

abbrev pub blocks : Map → (Place → Bool) → Place → ℕ → Bool
blocks m mark p j = blocks_by m mark p j (next m.sizes p j)

-- "A working node is useless if on every counted axis its neighbour ahead exists and is faulty or useless."
unfoldable pub marked : Map → ℕ → (Place → Bool) → Place → Bool
marked m o mark p = works m p && rule m.sizes o (blocks m mark p)

-- stuck: useless in orientation o. First as far as n steps ahead show, then for good: no walk ahead is longer than W + H + D.
unfoldable pub stuck_within : ℕ → Map → ℕ → Place → Bool
stuck_within zero m o p = false
stuck_within (suc n) m o p = marked m o (stuck_within n m o) p

unfoldable pub stuck : Map → ℕ → Place → Bool
stuck m o p = stuck_within (m.sizes.w + m.sizes.h + m.sizes.d) m o p

-- The same as relations: p's neighbour in direction j blocks p, and p is stuck.
pub data Blocks (m : Map) (o : ℕ) : Place → ℕ → Type 0 where
  by_wall : {p q : Place} {j : ℕ} → next m.sizes p j ≡ Some q → T (wall m p j q) → Blocks m o p j
  by_mark : {p q : Place} {j : ℕ} → next m.sizes p j ≡ Some q → T (works m q)
      → ((a : Axis) → T (counted m.sizes a) → Blocks m o q (ahead o a)) → Blocks m o p j

pub record Stuck (m : Map) (o : ℕ) (p : Place) : Type 0 where
  pub working : T (works m p)
  pub blocked : (a : Axis) → T (counted m.sizes a) → Blocks m o p (ahead o a)

-- The two marks. Can't-reach, which looks behind, is stuck in the reversed orientation.
pub data Kind : Type 0 where
  useless cant_reach : Kind

abbrev pub heading : ℕ → Kind → ℕ
heading o useless = o
heading o cant_reach = reversed o

abbrev pub holds : Map → ℕ → Place → Kind → Bool
holds m o p k = stuck m (heading o k) p

-- 01's two rules as they stand, for any assignment of marks: p works, and on every counted axis its neighbour on that side blocks it.
abbrev pub Ruled : Map → (Axis → ℕ) → (Place → Bool) → Place → Type 0
Ruled m side mark p = T (works m p) × ((a : Axis) → T (counted m.sizes a) → T (blocks m mark p (side a)))

-- "useless if on every counted axis its neighbour ahead ..", "can't-reach if on every counted axis its neighbour behind .."
pub record Rules (m : Map) (o : ℕ) (marks : Kind → Place → Bool) : Type 0 where
  pub of_useless : (p : Place) → Inside m.sizes p → T (marks useless p) ↔ Ruled m (ahead o) (marks useless) p
  pub of_cant_reach : (p : Place) → Inside m.sizes p → T (marks cant_reach p) ↔ Ruled m (behind o) (marks cant_reach) p

-- marks that leave out no node which a rule marks, given those marks
pub record Closed (m : Map) (o : ℕ) (marks : Kind → Place → Bool) : Type 0 where
  pub of_useless : (p : Place) → Inside m.sizes p → Ruled m (ahead o) (marks useless) p → T (marks useless p)
  pub of_cant_reach : (p : Place) → Inside m.sizes p → Ruled m (behind o) (marks cant_reach) p → T (marks cant_reach p)

-- "Mark byte: 0 none, 1 faulty, 2 useless, 4 can't-reach, 6 both."
unfoldable pub byte_of : (Kind → Bool) → ℕ
byte_of has = 2 * bit (has useless) + 4 * bit (has cant_reach)

unfoldable pub has : ℕ → Kind → Bool
has b useless = eqb (b / 2 % 2) 1
has b cant_reach = eqb (b / 4 % 2) 1

-- "A word is 0, 2, 4 or 6."
unfoldable pub is_word : ℕ → Bool
is_word b = eqb b 0 || eqb b 2 || eqb b 4 || eqb b 6

unfoldable pub mark_at : Map → ℕ → Place → ℕ
mark_at m o p = cond (faulty m p) 1 (byte_of (holds m o p))

-- "A node is unsafe if its byte is not 0."
unfoldable pub unsafe_at : Map → ℕ → Place → Bool
unsafe_at m o p = not (eqb (mark_at m o p) 0)

-- the mark bytes of a map, in node order
unfoldable pub marks_of : Map → ℕ → List ℕ
marks_of m o = table (λ k. mark_at m o (place_of m.sizes k)) (nodes m.sizes)

-- The rule as a talking node applies it, to a byte for each direction: "1 blocks for both marks, 8 blocks for neither".
unfoldable pub byte_blocks : ℕ → Kind → Bool
byte_blocks b k = eqb b 1 || has b k

unfoldable pub rule_byte : Sizes → ℕ → (ℕ → ℕ) → ℕ
rule_byte S o heard = byte_of λ k. rule S (heading o k) λ j. byte_blocks (heard j) k

-- "For a working node, heard is 8 where no neighbour exists, 1 where the neighbour is faulty, else a word."
pub record Heard (m : Map) (p : Place) (heard : ℕ → ℕ) : Type 0 where
  pub edge : (j : ℕ) → j < 6 → next m.sizes p j ≡ None → heard j ≡ 8
  pub dead : (j : ℕ) (q : Place) → next m.sizes p j ≡ Some q → T (wall m p j q) → heard j ≡ 1
  pub word : (j : ℕ) (q : Place) → next m.sizes p j ≡ Some q → T (not (wall m p j q)) → T (is_word (heard j))

-- what p hears so if each neighbour tells it its byte
abbrev pub read_by : Map → (Place → ℕ) → Place → ℕ → Option Place → ℕ
read_by m bytes p j (Some q) = cond (wall m p j q) 1 (bytes q)
read_by m bytes p j None = 8

abbrev pub read_at : Map → (Place → ℕ) → Place → ℕ → ℕ
read_at m bytes p j = read_by m bytes p j (next m.sizes p j)

-- In steps left, so that all eight orientations are one case. The steps left at coordinate c of an axis of n, and the coordinate with c left.
abbrev pub flip : Bool → ℕ → ℕ → ℕ
flip true n c = c
flip false n c = n - 1 - c

-- the place with s.x, s.y and s.z steps left
abbrev pub to_go : Sizes → ℕ → Place → Place
to_go S o s = place (flip (runs_down o X) S.w s.x) (flip (runs_down o Y) S.h s.y) (flip (runs_down o Z) S.d s.z)

-- faulty or stuck
abbrev pub shut : Map → ℕ → Place → Bool
shut m o p = faulty m p || stuck m o p
