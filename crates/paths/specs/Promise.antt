-- Demand 2 for routes, in the auditor's words: what the three calls promise of every map and every two nodes. A call returns the number of a
-- refusal, 0 where it is granted; the number of a bad cell; and its values. `Promise` is the whole of it, stated of these numbers and of what is
-- lent, with no premise; proofs/Promise.antt shows that it is kept. Taken from elsewhere: `map_checks`, `give`, `InOrder` and `NamesBad`, the checks
-- of a map, the number that checks give, a map in order and the bad cell named (mesh/specs/Order.antt); `next`, a step in the mesh; `may_end` and
-- `may_enter`, today "the node works"; `linked`, today "there is a neighbour"; `hops`, the Manhattan distance; `may_hop`, a preferred step that is
-- allowed; and `Path`, 01's path. Assumes nothing.
use Rattle.std.specs.Prelude.{List, [], ◌∷◌, ◌++◌, ◌↔◌, ◌≢◌, ◌≡◌, ℕ, suc, ◌+◌, ◌/◌, ◌%◌, ◌^◌, ◌<◌, ◌≤◌, T, eqb, length, get_or, drop, Some}
use Rattle.mesh.specs.Tools.{count}
use Rattle.mesh.specs.Mesh.{sizes, nodes, number, place_of}
use Rattle.mesh.specs.Steps.{next}
use Rattle.mesh.specs.Cells.{Map, map_of, cell_at, may_end, linked}
use Rattle.mesh.specs.Answers.{answer_no, answer_bad, numbered_value}
use Rattle.mesh.specs.Order.{Check, ◌else◌, ◌give◌, InOrder, map_checks, NamesBad}
use Rattle.rules.specs.Marks.{mark_at}
use Rattle.mesh.specs.declared.Sizes.{Sizes}
use Rattle.mesh.specs.declared.Place.{Place}
use Rattle.paths.specs.Differences.{hops}
use Rattle.paths.specs.Paths.{may_enter, may_hop, Leads, Path}
use Rattle.paths.specs.Entries.{verdict_hops, verdict_offered, verdict_answer, route_answer, route_out, reached_answer, reached_out}

-- A question: sizes and cells of a map, the node s where a transfer starts and the node e where it ends.
module _ (S : Sizes) (cells : List ℕ) (s e : ℕ) where
  abbrev m : Map
  m = map_of S cells

  -- the place of node k
  abbrev at : ℕ → Place
  at k = place_of S k

  -- it is in order: its map is, and its ends are nodes of the map
  pub record Asked : Type 0 where
    pub map : InOrder S cells
    pub start_in : s < nodes S
    pub end_in : e < nodes S

  -- both ends work; a path joins them; a path from node k to the end begins in direction j
  abbrev pub BothWork : Type 0
  BothWork = T (may_end (cell_at m (at s))) × T (may_end (cell_at m (at e)))

  abbrev pub Joined : Type 0
  Joined = (l : List ℕ) × Path m (at s) (at e) l

  abbrev pub Begins : ℕ → ℕ → Type 0
  Begins k j = (r : Place) × (l : List ℕ) × (next S (at k) j ≡ Some r) × Path m (at k) (at e) (k ∷ number S r ∷ l)

  -- The checks of the ends, in 01's order: the map (1, 2, 4), both numbers (5), both nodes (9). Those of a path between them: the ends', and last the
  -- path itself (10).
  abbrev pub end_checks : List Check
  end_checks = map_checks S cells ++ ((s < nodes S) × (e < nodes S)) else 5 ∷ BothWork else 9 ∷ []

  abbrev pub path_checks : List Check
  path_checks = end_checks ++ Joined else 10 ∷ []

  -- A walk by node numbers from start to end, each node working and a mesh neighbour of the one before, whose number of hops is the
  -- Manhattan distance.
  pub record DirectWalk (l : List ℕ) : Type 0 where
    pub size : length l ≡ hops (at s) (at e) + 1
    pub first : get_or l 0 0 ≡ s
    pub last : get_or l (hops (at s) (at e)) 0 ≡ e
    pub ends : BothWork
    pub works : (i : ℕ) → suc i < length l → T (may_enter m (at e) (at (get_or l (suc i) 0)))
    pub neighbours : (i : ℕ) → suc i < length l
        → (j : ℕ) × T (linked m (at (get_or l i 0)) j) × (next S (at (get_or l i 0)) j ≡ Some (at (get_or l (suc i) 0)))

  -- At each of its nodes but the last, the list goes on in the lowest-numbered direction in which a path to the end begins.
  abbrev pub TakesLowest : List ℕ → Type 0
  TakesLowest l = (i : ℕ) → suc i < length l → (j : ℕ) × (next S (at (get_or l i 0)) j ≡ Some (at (get_or l (suc i) 0)))
      × Begins (get_or l i 0) j × ((k : ℕ) → k < j → Begins (get_or l i 0) k → ⊥)

  -- Bytes, one for each node: the start has 1, and an allowed preferred step from a node with 1 leads to a node with 1. Anyone can check
  -- that, one step at a time; and where the end has no 1, it shows a refusal (`shown`).
  pub record Spread (bytes : List ℕ) : Type 0 where
    pub start_one : get_or bytes s 0 ≡ 1
    pub closed : (k j : ℕ) (r : Place) → k < nodes S → get_or bytes k 0 ≡ 1 → next S (at k) j ≡ Some r → T (may_hop m (at e) (at k) j r)
        → get_or bytes (number S r) 0 ≡ 1

  -- The verdict: n are the hops, o is the offered set.
  pub record VerdictPromise (refusal bad n o : ℕ) : Type 0 where
    -- The refusal is that of the first check that fails, and 0 where none does. So it is 10 exactly if the question is in order, both ends work and
    -- no path joins them, and 0 exactly if one does. 4 names the first bad cell.
    pub order : path_checks give refusal
    pub no_path : (refusal ≡ 10) ↔ (Asked × BothWork × (Joined → ⊥))
    pub granted : (refusal ≡ 0) ↔ (Asked × Joined)
    pub names_bad : NamesBad S cells refusal bad
    -- Where it is granted, the hops are the Manhattan distance, at most 45,
    pub far : refusal ≡ 0 → (n ≡ hops (at s) (at e)) × (n ≤ 45)
    -- bit j of the offered set is set exactly if a path to the end begins in direction j, and there is no other bit,
    pub offers : refusal ≡ 0 → (o < 64) × ((j : ℕ) → j < 6 → (o / 2 ^ j % 2 ≡ 1) ↔ Begins s j)
    -- and at the end itself both are 0. On a refusal they are 0 too.
    pub itself : refusal ≡ 0 → s ≡ e → (n ≡ 0) × (o ≡ 0)
    pub nothing : refusal ≢ 0 → (n ≡ 0) × (o ≡ 0)

  -- The route: the numbers `old` are lent, and are `new` when the call returns; n is the route's length.
  pub record RoutePromise (old : List ℕ) (refusal bad n : ℕ) (new : List ℕ) : Type 0 where
    -- Refused as the verdict is; and last, where only the room for its nodes is short, by 3.
    pub order : path_checks ++ (hops (at s) (at e) + 1 ≤ length old) else 3 ∷ [] give refusal
    pub no_path : (refusal ≡ 10) ↔ (Asked × BothWork × (Joined → ⊥))
    pub granted : (refusal ≡ 0) ↔ (Asked × Joined × (hops (at s) (at e) + 1 ≤ length old))
    pub names_bad : NamesBad S cells refusal bad
    -- Where it is granted, n numbers stand in front, one more than the hops: a path from start to end that takes the lowest offered direction at
    -- each of its nodes.
    pub written : refusal ≡ 0 → (n ≡ hops (at s) (at e) + 1)
        × ((l : List ℕ) × (length l ≡ n) × (new ≡ l ++ drop n old) × Path m (at s) (at e) l × TakesLowest l)
    -- On a refusal n is 0, and what was lent is as before.
    pub nothing : refusal ≢ 0 → (n ≡ 0) × (new ≡ old)

  -- What is reached: the bytes `old` are lent, and are `new` when the call returns; n nodes are reached.
  pub record ReachedPromise (old : List ℕ) (refusal bad n : ℕ) (new : List ℕ) : Type 0 where
    -- Refused by 1, 2, 4, 5 and 9 as the verdict is; and last, where only the room for all nodes is short, by 3.
    pub order : end_checks ++ (nodes S ≤ length old) else 3 ∷ [] give refusal
    pub granted : (refusal ≡ 0) ↔ (Asked × BothWork × (nodes S ≤ length old))
    pub names_bad : NamesBad S cells refusal bad
    -- Where it is granted, one byte for each node stands in front, 1 exactly where preferred steps towards the end lead from the start to it, and n
    -- counts the 1s;
    pub written : refusal ≡ 0 → (bytes : List ℕ) × (length bytes ≡ nodes S) × (new ≡ bytes ++ drop (nodes S) old)
        × ((k : ℕ) → k < nodes S → (get_or bytes k 0 ≤ 1) × ((get_or bytes k 0 ≡ 1) ↔ ((l : List ℕ) × Leads m (at e) (at s) (at k) l)))
        × (n ≡ count (nodes S) λ k. eqb (get_or bytes k 0) 1)
    -- the start's is 1, preferred steps stay among the 1s, and the end's is 1 exactly if a path joins the ends.
    pub spread : refusal ≡ 0 → Spread new
    pub end_one : refusal ≡ 0 → (get_or new e 0 ≡ 1) ↔ Joined
    -- On a refusal n is 0, and what was lent is as before.
    pub nothing : refusal ≢ 0 → (n ≡ 0) × (new ≡ old)

  pub record Promise : Type 0 where
    -- a path is exactly a direct walk; and where such bytes, whoever made them, miss the end, there is none
    pub direct : Asked → (l : List ℕ) → Path m (at s) (at e) l ↔ DirectWalk l
    pub shown : Asked → (bytes : List ℕ) → Spread bytes → (get_or bytes e 0 ≡ 1 → ⊥) → Joined → ⊥
    -- the numbers of each call's answer
    pub verdict : let v = verdict_answer S cells s e in VerdictPromise (answer_no v) (answer_bad v) (verdict_hops v) (verdict_offered v)
    pub route : (old : List ℕ) → let a = route_answer S cells s e (length old) in
        RoutePromise old (answer_no a) (answer_bad a) (numbered_value a) (route_out S cells s e old)
    pub reached : (old : List ℕ) → let a = reached_answer S cells s e (length old) in
        ReachedPromise old (answer_no a) (answer_bad a) (numbered_value a) (reached_out S cells s e old)

-- "Map P is 5 × 5 × 1 with (2,1) and (1,2) faulty." The mark byte of a node of P in orientation o; and the verdict on two of them: the refusal's
-- number, the hops and the offered set.
abbrev pub P : Map
P = map_of (sizes 5 5 1) (0 ∷ 0 ∷ 0 ∷ 0 ∷ 0 ∷ 0 ∷ 0 ∷ 1 ∷ 0 ∷ 0 ∷ 0 ∷ 1 ∷ 0 ∷ 0 ∷ 0 ∷ 0 ∷ 0 ∷ 0 ∷ 0 ∷ 0 ∷ 0 ∷ 0 ∷ 0 ∷ 0 ∷ 0 ∷ [])

abbrev pub mark_on : ℕ → ℕ → ℕ
mark_on o k = mark_at P o (place_of P.sizes k)

abbrev pub verdict_on : ℕ → ℕ → ℕ × ℕ × ℕ
verdict_on s e = let v = verdict_answer P.sizes P.cells s e in (answer_no v, verdict_hops v, verdict_offered v)

-- A marked end is no reason to refuse, an unmarked pair no reason to grant.
pub record MarksApart : Type 0 where
  -- case 5, "5 to 6: 1 hop, though 6 is useless"
  pub useless_end : (mark_on 0 6 ≡ 2) × (verdict_on 5 6 ≡ (0, 1, 1))
  -- case 6, "0 to 12: refusal 10. 12 to 24: 4 hops.", where 12 can't be reached
  pub cant_reach_end : (mark_on 0 12 ≡ 4) × (verdict_on 0 12 ≡ (10, 0, 0)) × (verdict_on 12 24 ≡ (0, 4, 5))
  -- case 7, "2 to 17: refusal 10, though neither end has a mark", in whatever orientation
  pub unmarked_pair : ((o : ℕ) → o ≤ 7 → (mark_on o 2 ≡ 0) × (mark_on o 17 ≡ 0)) × (verdict_on 2 17 ≡ (10, 0, 0))
