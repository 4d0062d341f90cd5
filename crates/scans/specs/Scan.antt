-- How the code goes through a state: node by node, row by row. `scan_is` and `news_is` of proofs/ show that it finds what 01 says. Assumes
-- nothing.
use Rattle.std.specs.Prelude.{Bool, true, cond, not, ◌&&◌, List, ℕ, ◌≡◌, ◌+◌, ◌*◌, ◌≤◌, eqb}
use Rattle.mesh.specs.Tools.{all, sum, count}
use Rattle.mesh.specs.Mesh.{place_of}
use Rattle.mesh.specs.declared.Sizes.{Sizes}
use Rattle.talk.specs.State.{own, heard, map_in}
use Rattle.talk.specs.Sound.{faulty_hears}
use Rattle.states.specs.Six.{fits, quick_rule, shows, ones, ◌is_but255◌}

-- the seven bytes of node k pass the test
unfoldable pub node_test : Sizes → ℕ → List ℕ → ℕ → Bool
node_test S o s k =
    cond
    (eqb (own s k) 1)
    (all 6 λ j. eqb (heard s k j) (faulty_hears (map_in S s) (place_of S k) j))
    (eqb (own s k) (quick_rule S o (heard s k)) && all 6 λ j. fits (shows S s k j) (heard s k j))

-- the nodes of row r pass it
abbrev pub row_test : Sizes → ℕ → List ℕ → ℕ → Bool
row_test S o s r = all S.w λ x. node_test S o s (x + S.w * r)

-- ---- words outstanding, in a sound state

-- how many of node k's neighbours show it another byte than it has heard
unfoldable pub node_news : Sizes → List ℕ → ℕ → ℕ
node_news S s k = cond (eqb (own s k) 1) 0 (count 6 λ j. not (eqb (shows S s k j) (heard s k j)))

-- in row r
abbrev pub row_news : Sizes → List ℕ → ℕ → ℕ
row_news S s r = sum S.w λ x. node_news S s (x + S.w * r)

-- ---- both

-- node k passes, and n counts its words, but for a multiple of 255
pub record Right (S : Sizes) (o : ℕ) (s : List ℕ) (k n : ℕ) : Type 0 where
  pub passes : node_test S o s k ≡ true
  pub counts : n is_but255 node_news S s k
  pub few : n ≤ ones
