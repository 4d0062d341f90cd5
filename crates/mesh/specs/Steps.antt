-- 01, "Size and numbering": the six unit steps, directions and orientations. Assumes nothing.
use Rattle.std.specs.Prelude.{Bool, true, false, cond, List, [], ◌∷◌, ℕ, ◌+◌, ◌-◌, ◌*◌, ◌/◌, ◌%◌, ℤ, pos, negsuc, ◌+ℤ◌, get_or, ltb, eqb, Some, None, Option}
use Rattle.mesh.specs.Mesh.{Axis, X, Y, Z, place, place_of, number}
use Rattle.mesh.specs.declared.Sizes.{Sizes}
use Rattle.mesh.specs.declared.Place.{Place}

abbrev pub triple : ℤ → ℤ → ℤ → List ℤ
triple a b c = a ∷ b ∷ c ∷ []

-- "Directions: 0 is +X, 1 −X, 2 +Y, 3 −Y, 4 +Z, 5 −Z. These six unit steps stand once, as a fixed table of signed triples."
abbrev pub steps : List (List ℤ)
steps =
    triple (pos 1) (pos 0) (pos 0)
    ∷ triple (negsuc 0) (pos 0) (pos 0)
    ∷ triple (pos 0) (pos 1) (pos 0)
    ∷ triple (pos 0) (negsuc 0) (pos 0)
    ∷ triple (pos 0) (pos 0) (pos 1)
    ∷ triple (pos 0) (pos 0) (negsuc 0)
    ∷ []

abbrev pub step_of : ℕ → ℕ → ℤ
step_of j axis = get_or (get_or steps j []) axis (pos 0)

-- the opposite direction
abbrev pub opposite : ℕ → ℕ
opposite j = j + 1 - 2 * (j % 2)

-- a coordinate, if an axis of n has it
abbrev pub on_axis : ℕ → ℤ → Option ℕ
on_axis n (pos k) = cond (ltb k n) (Some k) None
on_axis n (negsuc k) = None

-- the coordinate c moved by s on an axis of n, or off the axis
abbrev pub moved : ℕ → ℤ → ℕ → Option ℕ
moved c s n = on_axis n (pos c +ℤ s)

-- the three axes together
abbrev pub together : Option ℕ → Option ℕ → Option ℕ → Option Place
together None b c = None
together (Some x) None c = None
together (Some x) (Some y) None = None
together (Some x) (Some y) (Some z) = Some (place x y z)

-- "A place is three coordinates; a step from it gives the next place, or says that the mesh ends there." There are six directions.
unfoldable pub next : Sizes → Place → ℕ → Option Place
next S p j =
    cond (ltb j 6) (together (moved p.x (step_of j 0) S.w) (moved p.y (step_of j 1) S.h) (moved p.z (step_of j 2) S.d)) None

-- the number of the place that a step leads to
abbrev pub number_at : Sizes → Option Place → ℕ
number_at S (Some q) = number S q
number_at S None = 0

-- the number of the neighbour of node k in direction j, where it exists
abbrev pub neighbour : Sizes → ℕ → ℕ → ℕ
neighbour S k j = number_at S (next S (place_of S k) j)

-- the direction up or down an axis
abbrev pub along : Axis → Bool → ℕ
along X false = 0
along X true = 1
along Y false = 2
along Y true = 3
along Z false = 4
along Z true = 5

-- "Orientation 0 to 7: bit 0 set means X runs down, bit 1 Y, bit 2 Z."
abbrev pub runs_down : ℕ → Axis → Bool
runs_down o X = eqb (o % 2) 1
runs_down o Y = eqb (o / 2 % 2) 1
runs_down o Z = eqb (o / 4 % 2) 1

-- "'Ahead' is the running direction on an axis, 'behind' its opposite."
abbrev pub ahead : ℕ → Axis → ℕ
ahead o a = along a (runs_down o a)

abbrev pub behind : ℕ → Axis → ℕ
behind o a = opposite (ahead o a)

-- the orientation in which every axis runs the other way: its ahead is behind
abbrev pub reversed : ℕ → ℕ
reversed o = 7 - o
