-- 01, "Routes": differences of coordinates, preferred directions, hops. Assumes nothing.
use Rattle.std.specs.Prelude.{Bool, false, cond, ◌||◌, ℕ, zero, suc, ◌+◌, ℤ, pos, negsuc, nat_abs, eqb, leb, Some, None, Option}
use Rattle.std.proofs.Math.IntN.{sub_ℕ}
use Rattle.mesh.specs.Tools.{implies}
use Rattle.mesh.specs.Mesh.{Axis, X, Y, Z, on, every}
use Rattle.mesh.specs.Steps.{along, runs_down}
use Rattle.rules.specs.Marks.{counted}
use Rattle.mesh.specs.declared.Sizes.{Sizes}
use Rattle.mesh.specs.declared.Place.{Place}

-- "The signed difference along each axis": the coordinate of the end e less that of the node p; and its size
abbrev pub difference : Place → Place → Axis → ℤ
difference p e a = sub_ℕ (on e a) (on p a)

abbrev pub size : Place → Place → Axis → ℕ
size p e a = nat_abs (difference p e a)

-- "A preferred direction lowers a difference's size; a zero difference offers none." The sign chooses, `up` or the direction after it.
abbrev pub wanted : ℕ → ℤ → Option ℕ
wanted up (pos zero) = None
wanted up (pos (suc n)) = Some up
wanted up (negsuc n) = Some (up + 1)

abbrev pub is_way : Option ℕ → ℕ → Bool
is_way (Some k) j = eqb j k
is_way None j = false

abbrev pub prefers : Place → Place → ℕ → Axis → Bool
prefers p e j a = is_way (wanted (along a false) (difference p e a)) j

-- direction j is preferred at p, on the way to e
unfoldable pub preferred : Place → Place → ℕ → Bool
preferred p e j = prefers p e j X || prefers p e j Y || prefers p e j Z

-- "Its hops are the sum of the sizes of the differences."
unfoldable pub hops : Place → Place → ℕ
hops p e = size p e X + size p e Y + size p e Z

-- two places are one
abbrev pub same : Place → Place → Bool
same p q = every λ a. eqb (on p a) (on q a)

-- e "lies ahead of it or level with it on every counted axis": ahead of p, as orientation o runs
abbrev pub not_behind : ℕ → Place → Place → Axis → Bool
not_behind o p e a = cond (runs_down o a) (leb (on e a) (on p a)) (leb (on p a) (on e a))

unfoldable pub ahead_or_level : Sizes → ℕ → Place → Place → Bool
ahead_or_level S o p e = every λ a. implies (counted S a) (not_behind o p e a)
