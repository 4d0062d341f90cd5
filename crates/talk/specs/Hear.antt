-- 01, "The talking nodes": what hearing a word changes, and how many words are outstanding. Assumes nothing.
use Rattle.std.specs.Prelude.{Bool, not, ◌&&◌, ◌||◌, List, ℕ, ◌+◌, ◌*◌, eqb, set}
use Rattle.mesh.specs.Tools.{sum, count}
use Rattle.mesh.specs.Mesh.{nodes}
use Rattle.mesh.specs.Cells.{Map}
use Rattle.rules.specs.Marks.{has, byte_of, rule_byte}
use Rattle.mesh.specs.declared.Sizes.{Sizes}
use Rattle.talk.specs.State.{heard, map_in, pair, says}

-- the byte with the marks of b and of the word w: "A late word never takes a mark away."
unfoldable pub add_marks : ℕ → ℕ → ℕ
add_marks b w = byte_of λ a. has b a || has w a

-- "Hearing a word adds its marks to the one heard byte and then sets that node's own byte by the rule. No other byte changes."
unfoldable pub added : ℕ → ℕ → ℕ → List ℕ → List ℕ
added k j w s = set s (7 * k + 1 + j) (add_marks (heard s k j) w)

unfoldable pub ruled_at : Sizes → ℕ → ℕ → List ℕ → List ℕ
ruled_at S o k s = set s (7 * k) (rule_byte S o (heard s k))

unfoldable pub changed : Sizes → ℕ → ℕ → ℕ → ℕ → List ℕ → List ℕ
changed S o k j w s = ruled_at S o k (added k j w s)

-- "Outstanding: the number of ordered pairs of a working listener and a working neighbour whose own byte differs from the word heard."
abbrev pub differs : Sizes → List ℕ → ℕ → ℕ → Bool
differs S s k j = not (eqb (says S s k j) (heard s k j))

abbrev pub news : Map → List ℕ → ℕ → ℕ → Bool
news m s k j = pair m k j && differs m.sizes s k j

unfoldable pub outstanding_on : Map → List ℕ → ℕ
outstanding_on m s = sum (nodes m.sizes) λ k. count 6 (news m s k)

unfoldable pub outstanding : Sizes → List ℕ → ℕ
outstanding S s = outstanding_on (map_in S s) s
