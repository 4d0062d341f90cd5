-- 01, "The talking nodes": sound states, and the fresh state. Assumes nothing.
use Rattle.std.specs.Prelude.{Bool, cond, ◌&&◌, List, ◌≡◌, ℕ, zero, suc, ◌/◌, ◌%◌, ◌<◌, T, eqb, length, Some, None, Option}
use Rattle.mesh.specs.Tools.{implies, all, table}
use Rattle.mesh.specs.Mesh.{nodes, number, place_of}
use Rattle.mesh.specs.Steps.{next}
use Rattle.mesh.specs.Cells.{Map, faulty, wall, state_length}
use Rattle.rules.specs.Marks.{Kind, useless, cant_reach, has, rule_byte, read_at, is_word}
use Rattle.mesh.specs.declared.Sizes.{Sizes}
use Rattle.mesh.specs.declared.Place.{Place}
use Rattle.talk.specs.State.{own, heard, map_in, faulty_node, works_node, pair, says}

-- byte v "holds no mark that" byte w "lacks": as a test, and as a statement
unfoldable pub within : ℕ → ℕ → Bool
within v w = implies (has v useless) (has w useless) && implies (has v cant_reach) (has w cant_reach)

infix 4 ◌no_more_than◌
abbrev pub ◌no_more_than◌ : ℕ → ℕ → Type 0
v no_more_than w = (a : Kind) → T (has v a) → T (has w a)

-- "A faulty node has own byte 1 and six zeros": its byte for direction j
unfoldable pub faulty_hears : Map → Place → ℕ → ℕ
faulty_hears m p j = 0

-- "For a working node, heard is 8 where no neighbour exists, 1 where the neighbour is faulty, else a word";
-- "each word heard holds no mark that the neighbour's own byte lacks": node k's byte for direction j, where a step leads to what is given
abbrev pub heard_right : Map → List ℕ → ℕ → ℕ → Option Place → Bool
heard_right m s k j None = eqb (heard s k j) 8
heard_right m s k j (Some q) =
    cond
    (wall m (place_of m.sizes k) j q)
    (eqb (heard s k j) 1)
    (is_word (heard s k j) && within (heard s k j) (own s (number m.sizes q)))

-- the seven bytes of node k are right: "each working node's own byte is what the mark rule gives when it reads the heard bytes in place of
-- its neighbours"
unfoldable pub working_right : Map → ℕ → List ℕ → ℕ → Bool
working_right m o s k =
    eqb (own s k) (rule_byte m.sizes o (heard s k)) && all 6 (λ j. heard_right m s k j (next m.sizes (place_of m.sizes k) j))

unfoldable pub faulty_right : Map → List ℕ → ℕ → Bool
faulty_right m s k = eqb (own s k) 1 && all 6 (λ j. eqb (heard s k j) (faulty_hears m (place_of m.sizes k) j))

unfoldable pub node_right : Map → ℕ → List ℕ → ℕ → Bool
node_right m o s k = cond (faulty_node m k) (faulty_right m s k) (working_right m o s k)

-- Sound: every byte is as the map says; the map is the one that the state tells.
unfoldable pub sound_on : Map → ℕ → List ℕ → Bool
sound_on m o s = eqb (length s) (state_length m.sizes) && all (nodes m.sizes) (node_right m o s)

unfoldable pub sound : Sizes → ℕ → List ℕ → Bool
sound S o s = sound_on (map_in S s) o s

-- The same as a relation. A sound state of a map m is one that is sound on m.
pub record SoundOn (m : Map) (o : ℕ) (s : List ℕ) : Type 0 where
  -- "Its state is 7 × N bytes."
  pub long : length s ≡ state_length m.sizes
  -- "A faulty node has own byte 1 and six zeros."
  pub failed : (k : ℕ) → k < nodes m.sizes → T (faulty_node m k)
      → (own s k ≡ 1) × ((j : ℕ) → j < 6 → heard s k j ≡ faulty_hears m (place_of m.sizes k) j)
  -- "each working node's own byte is what the mark rule gives when it reads the heard bytes in place of its neighbours"
  pub ruled : (k : ℕ) → k < nodes m.sizes → T (works_node m k) → own s k ≡ rule_byte m.sizes o (heard s k)
  -- "For a working node, heard is 8 where no neighbour exists, 1 where the neighbour is faulty, else a word",
  pub edge : (k j : ℕ) → k < nodes m.sizes → T (works_node m k) → j < 6
      → next m.sizes (place_of m.sizes k) j ≡ None → heard s k j ≡ 8
  pub walled : (k j : ℕ) (q : Place) → k < nodes m.sizes → T (works_node m k)
      → next m.sizes (place_of m.sizes k) j ≡ Some q → T (wall m (place_of m.sizes k) j q) → heard s k j ≡ 1
  -- and that "holds no mark that the neighbour's own byte lacks".
  pub words : (k j : ℕ) → T (pair m k j) → T (is_word (heard s k j)) × (heard s k j no_more_than says m.sizes s k j)

abbrev pub Sound : Sizes → ℕ → List ℕ → Type 0
Sound S o s = SoundOn (map_in S s) o s

-- "Fresh: heard words are 0, own bytes follow from that." What node k has heard from direction j, its own byte, and the byte i of its seven.
unfoldable pub fresh_heard : Map → ℕ → ℕ → ℕ
fresh_heard m k j = let p = place_of m.sizes k in cond (faulty m p) (faulty_hears m p j) (read_at m (λ q. 0) p j)

unfoldable pub fresh_own : Map → ℕ → ℕ → ℕ
fresh_own m o k = cond (faulty_node m k) 1 (rule_byte m.sizes o (fresh_heard m k))

abbrev pub fresh_byte : Map → ℕ → ℕ → ℕ → ℕ
fresh_byte m o k zero = fresh_own m o k
fresh_byte m o k (suc j) = fresh_heard m k j

unfoldable pub fresh : Map → ℕ → List ℕ
fresh m o = table (λ i. fresh_byte m o (i / 7) (i % 7)) (state_length m.sizes)
