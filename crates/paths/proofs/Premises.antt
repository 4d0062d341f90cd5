-- "Both premises matter: on case 11's map node 4 reaches node 5, both useless; on map P the useless node 6 reaches node 0, which lies
-- behind it." By computation. Assumes nothing.
use mathlib.Core.Path.{◌≡◌, refl}
use mathlib.Core.Bool.{Bool, true, false}
use mathlib.Core.List.{List, [], ◌∷◌, map}
use Prim.Native.Nat.{ℕ}
use Rattle.mesh.specs.Mesh.{sizes, place_of}
use Rattle.mesh.specs.Cells.{Map, map_of, wall}
use Rattle.rules.specs.Marks.{rule, marked, stuck_within, stuck, useless, holds}
use Rattle.paths.specs.Differences.{ahead_or_level}
use Rattle.paths.specs.Paths.{leads}
use Rattle.paths.specs.Promise.{P}
use Rattle.paths.proofs.Computed.{computed}

-- a useless node and an end that it reaches, and which premise fails there: is the end useless, does it lie ahead or level
record Premise : Type 0 where
  the_map : Map
  node : ℕ
  end : ℕ
  useless_end : Bool
  ahead_end : Bool

abbrev case11 : Map
case11 = map_of (sizes 4 4 1) (0 ∷ 0 ∷ 0 ∷ 0 ∷ 0 ∷ 0 ∷ 1 ∷ 0 ∷ 1 ∷ 1 ∷ 0 ∷ 0 ∷ 0 ∷ 0 ∷ 0 ∷ 0 ∷ [])

abbrev found : Premise → List Bool
found s =
    let m = s.the_map in
    let p = place_of m.sizes s.node in
    let e = place_of m.sizes s.end in
    holds m 0 p useless ∷ leads m e p e ∷ holds m 0 e useless ∷ ahead_or_level m.sizes 0 p e ∷ []

abbrev said : Premise → List Bool
said s = true ∷ true ∷ s.useless_end ∷ s.ahead_end ∷ []

abbrev premises : List Premise
premises =
    record { the_map = case11; node = 4; end = 5; useless_end = true; ahead_end = true }
    ∷ record { the_map = P; node = 6; end = 0; useless_end = false; ahead_end = false }
    ∷ []

pub both_matter : map found premises ≡ map said premises
unfolding computed stuck stuck_within marked rule wall
both_matter = refl
