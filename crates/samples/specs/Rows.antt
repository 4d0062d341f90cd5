-- The starred samples of 01 as a table: what is asked, and 01's answer. To add a sample is to add a row. Assumes nothing.
use Rattle.std.specs.Prelude.{List, [], ◌∷◌, ◌++◌, ℕ}
use Rattle.mesh.specs.Mesh.{sizes}
use Rattle.mesh.specs.Cells.{Map, map_of}
use Rattle.talk.specs.Rounds.{Call, hearing}
use Rattle.samples.specs.Questions.{Question, marks, components, verdict, route, word, outstanding}

pub record Row : Type 0 where
  pub asked : Question
  pub answer : List ℕ

infix 4 ◌is◌
abbrev pub ◌is◌ : Question → List ℕ → Row
q is a = record { asked = q; answer = a }

-- "Map P is 5 × 5 × 1 with (2,1) and (1,2) faulty."
abbrev pub P : Map
P =
    map_of (sizes 5 5 1)
    (0 ∷ 0 ∷ 0 ∷ 0 ∷ 0 ∷ 0 ∷ 0 ∷ 1 ∷ 0 ∷ 0 ∷ 0 ∷ 1 ∷ 0 ∷ 0 ∷ 0 ∷ 0 ∷ 0 ∷ 0 ∷ 0 ∷ 0 ∷ 0 ∷ 0 ∷ 0 ∷ 0 ∷ 0 ∷ [])

-- case 10: "3 × 3 × 1 with (1,0), (0,1), (2,1), (1,2) faulty"
abbrev pub cross : Map
cross = map_of (sizes 3 3 1) (0 ∷ 1 ∷ 0 ∷ 1 ∷ 0 ∷ 1 ∷ 0 ∷ 1 ∷ 0 ∷ [])

-- case 11: "4 × 4 × 1 with (2,1), (1,2), (0,2) faulty"; a word; "those five words"
abbrev pub corner : Map
corner = map_of (sizes 4 4 1) (0 ∷ 0 ∷ 0 ∷ 0 ∷ 0 ∷ 0 ∷ 1 ∷ 0 ∷ 1 ∷ 1 ∷ 0 ∷ 0 ∷ 0 ∷ 0 ∷ 0 ∷ 0 ∷ [])

abbrev pub heard_two : List Call
heard_two = hearing 4 0 2 ∷ []

abbrev pub those_five : List Call
those_five = hearing 0 2 2 ∷ hearing 1 2 2 ∷ hearing 5 1 2 ∷ hearing 11 1 4 ∷ hearing 14 3 4 ∷ []

abbrev pub rows : List Row
rows =
    -- 1 "node 6 has 2, node 12 has 4, nodes 7 and 11 have 1, the rest 0"
    (marks P 0 is 0 ∷ 0 ∷ 0 ∷ 0 ∷ 0 ∷ 0 ∷ 0 ∷ 2 ∷ 1 ∷ 0 ∷ 0 ∷ 0 ∷ 1 ∷ 4 ∷ 0 ∷ 0 ∷ 0 ∷ 0 ∷ 0 ∷ 0 ∷ 0 ∷ 0 ∷ 0 ∷ 0 ∷ 0 ∷ 0 ∷ [])
    -- "One component, 4 nodes, (1,1,0) to (2,2,0)."
    ∷ (components P 0 is 0 ∷ 1 ∷ 4 ∷ 1 ∷ 1 ∷ 0 ∷ 2 ∷ 2 ∷ 0 ∷ [])
    -- 2 "no marks; one component of 2 nodes"
    ∷ (marks P 1 is 0 ∷ 0 ∷ 0 ∷ 0 ∷ 0 ∷ 0 ∷ 0 ∷ 0 ∷ 1 ∷ 0 ∷ 0 ∷ 0 ∷ 1 ∷ 0 ∷ 0 ∷ 0 ∷ 0 ∷ 0 ∷ 0 ∷ 0 ∷ 0 ∷ 0 ∷ 0 ∷ 0 ∷ 0 ∷ 0 ∷ [])
    ∷ (components P 1 is 0 ∷ 1 ∷ 2 ∷ 1 ∷ 1 ∷ 0 ∷ 2 ∷ 2 ∷ 0 ∷ [])
    -- 3 "8 hops, offered 5 at the start, route 0 1 2 3 4 9 14 19 24. Offered at node 1: 1."
    ∷ (verdict P 0 24 is 0 ∷ 8 ∷ 5 ∷ [])
    ∷ (route P 0 24 is 0 ∷ 9 ∷ 0 ∷ 1 ∷ 2 ∷ 3 ∷ 4 ∷ 9 ∷ 14 ∷ 19 ∷ 24 ∷ [])
    ∷ (verdict P 1 24 is 0 ∷ 7 ∷ 1 ∷ [])
    -- 4 "6 to 24: refusal 10. 6 to 6: 0 hops, offered 0, route 6."
    ∷ (verdict P 6 24 is 10 ∷ 0 ∷ 0 ∷ [])
    ∷ (route P 6 24 is 10 ∷ 0 ∷ [])
    ∷ (verdict P 6 6 is 0 ∷ 0 ∷ 0 ∷ [])
    ∷ (route P 6 6 is 0 ∷ 1 ∷ 6 ∷ [])
    -- 5 "5 to 6: 1 hop, though 6 is useless"
    ∷ (verdict P 5 6 is 0 ∷ 1 ∷ 1 ∷ [])
    -- 6 "0 to 12: refusal 10. 12 to 24: 4 hops."
    ∷ (verdict P 0 12 is 10 ∷ 0 ∷ 0 ∷ [])
    ∷ (verdict P 12 24 is 0 ∷ 4 ∷ 5 ∷ [])
    -- 7 "2 to 17: refusal 10, though neither end has a mark"
    ∷ (verdict P 2 17 is 10 ∷ 0 ∷ 0 ∷ [])
    -- 8 "24 to 0: offered 10, route 24 23 22 21 20 15 10 5 0"
    ∷ (verdict P 24 0 is 0 ∷ 8 ∷ 10 ∷ [])
    ∷ (route P 24 0 is 0 ∷ 9 ∷ 24 ∷ 23 ∷ 22 ∷ 21 ∷ 20 ∷ 15 ∷ 10 ∷ 5 ∷ 0 ∷ [])
    -- 9 "7 to 24: refusal 9; 25 to 7: refusal 5"
    ∷ (verdict P 7 24 is 9 ∷ 0 ∷ 0 ∷ [])
    ∷ (route P 25 7 is 5 ∷ 0 ∷ [])
    -- 10 "bytes 2 1 0 1 6 1 0 1 4"
    ∷ (marks cross 0 is 0 ∷ 2 ∷ 1 ∷ 0 ∷ 1 ∷ 6 ∷ 1 ∷ 0 ∷ 1 ∷ 4 ∷ [])
    -- 11 "fresh, 4 outstanding. Node 4 hearing 4 from direction 0: refusal 8."
    ∷ (outstanding corner [] is 0 ∷ 4 ∷ [])
    ∷ (word corner [] 4 0 4 is 8 ∷ 0 ∷ [])
    -- "Hearing 2: its own byte becomes 2, 5 outstanding. Those five words heard: 0 outstanding."
    ∷ (word corner [] 4 0 2 is 0 ∷ 2 ∷ [])
    ∷ (outstanding corner heard_two is 0 ∷ 5 ∷ [])
    ∷ (outstanding corner (heard_two ++ those_five) is 0 ∷ 0 ∷ [])
    ∷ []
