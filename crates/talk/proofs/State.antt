-- The map that a state tells, and who talks to whom. Assumes nothing.
use mathlib.Core.Path.{◌≡◌, refl, sym, ap, ◌∙◌}
use mathlib.Core.Bool.{Bool, true, false, not, ◌&&◌}
use mathlib.Core.List.{List}
use Prim.Native.Nat.{ℕ, ◌<◌}
use lib.Dec.{T, eqb}
use borrow.Author.Tests.{lt-ltb}
use Rattle.mesh.specs.Tools.{bit}
use Rattle.mesh.specs.Mesh.{nodes, number, place_of, Inside}
use Rattle.mesh.specs.Steps.{next, number_at, neighbour}
use Rattle.mesh.specs.Cells.{Map, faulty_cell, faulty, wall, linked}
use Rattle.mesh.specs.declared.Sizes.{Sizes}
use Rattle.mesh.specs.declared.Place.{Place}
use native.Mathlib.Omega.{arith}
use Rattle.mesh.proofs.Tests.{T-and, T-no, T-lt, T-eq, bool_ext}
use Rattle.mesh.proofs.Tables.{get_d_table}
use Rattle.mesh.proofs.Numbers.{number_of, number_lt, place_in, place_of_lem}
use Rattle.mesh.proofs.Steps.{next_in, dir_led}
use Rattle.talk.specs.State.{own, cells_in, map_in, faulty_node, works_node, StateOf, pair, says}
use Rattle.std.specs.Prelude.{Some, None, Option, is_some}

-- ---- the map that a state tells

bit_one : (b : Bool) → eqb (bit b) 1 ≡ b
bit_one true = refl
bit_one false = refl

pub faulty_in : (S : Sizes) (s : List ℕ) (k : ℕ) → k < nodes S → faulty_node (map_in S s) k ≡ eqb (own s k) 1
unfolding cells_in faulty_cell
faulty_in S s k h = rw (number_of S k, get_d_table (λ k. bit (eqb (own s k) 1)) (nodes S) k 0 h) (bit_one (eqb (own s k) 1))

-- a state of a map tells that map's faulty nodes
pub faulty_same : (m : Map) (s : List ℕ) → StateOf m s → (k : ℕ) → k < nodes m.sizes → faulty_node (map_in m.sizes s) k ≡ faulty_node m k
faulty_same m s z k h =
    faulty_in m.sizes s k h
    ∙ bool_ext (eqb (own s k) 1) (faulty_node m k) (λ t. (z k h).0 ((T-eq (own s k) 1).0 t)) (λ t. (T-eq (own s k) 1).1 ((z k h).1 t))

-- a question about a place in the mesh is one about its node
pub faulty_place : (m : Map) (q : Place) → Inside m.sizes q → faulty_node m (number m.sizes q) ≡ faulty m q
faulty_place m q i = ap (faulty m) (place_of_lem m.sizes q i)

-- a neighbour blocks by itself, in the map that a state tells, if its own byte is 1
pub wall_in : (S : Sizes) (s : List ℕ) (p : Place) (j : ℕ) (q : Place) → Inside S q → wall (map_in S s) p j q ≡ eqb (own s (number S q)) 1
unfolding wall
wall_in S s p j q i = sym (faulty_place (map_in S s) q i) ∙ faulty_in S s (number S q) (number_lt S q i)

-- ---- pairs

-- the questions of a pair, answered from the state
pub pair_is : (S : Sizes) (s : List ℕ) (k j : ℕ) → k < nodes S → neighbour S k j < nodes S
    → pair (map_in S s) k j ≡ not (eqb (own s k) 1) && linked (map_in S s) (place_of S k) j && not (eqb (says S s k j) 1)
unfolding pair
pair_is S s k j l h = rw (lt-ltb k (nodes S) l, faulty_in S s k l, faulty_in S s (neighbour S k j) h)

-- k and the neighbour in direction j, when they talk
pub record Talks (m : Map) (k j : ℕ) : Type 0 where
  pub lt : k < nodes m.sizes
  pub works_k : T (works_node m k)
  pub speaker : Place
  pub there : next m.sizes (place_of m.sizes k) j ≡ Some speaker
  pub free : T (not (wall m (place_of m.sizes k) j speaker))

at_of : (n : Option Place) → T (is_some n) → (q : Place) × (n ≡ Some q)
at_of (Some q) t = (q, refl)
at_of None t = absurd t

module _ (m : Map) (k j : ℕ) where
  abbrev p : Place
  p = place_of m.sizes k

  module _ (t : Talks m k j) where
    pub dir_lt_six : j < 6
    dir_lt_six = dir_led m.sizes p t.speaker j t.there

    pub speaker_in : Inside m.sizes t.speaker
    speaker_in = next_in m.sizes p t.speaker (place_in m.sizes k t.lt) j t.there

    pub speaker_is : neighbour m.sizes k j ≡ number m.sizes t.speaker
    speaker_is = ap (number_at m.sizes) t.there

    pub speaker_lt : neighbour m.sizes k j < nodes m.sizes
    speaker_lt = rw speaker_is (number_lt m.sizes t.speaker speaker_in)

    pub speaker_works : T (works_node m (neighbour m.sizes k j))
    unfolding wall
    speaker_works = rw (speaker_is, faulty_place m t.speaker speaker_in) t.free

    pub talks_pair : T (pair m k j)
    unfolding pair linked
    talks_pair = simp (pair, T-and, T-lt) (((t.lt, t.works_k), rw t.there tt), speaker_works)

  pub pair_talks : T (pair m k j) → Talks m k j
  unfolding pair wall linked
  pair_talks t =
      let n : ℕ = neighbour m.sizes k j in
      let (((l, w), i), v) : (((k < nodes m.sizes) × T (works_node m k)) × T (linked m p j)) × T (works_node m n) = simp (pair, T-and, T-lt) at t in
      let (q, e) = at_of (next m.sizes p j) i in
      let inn : Inside m.sizes q = next_in m.sizes p q (place_in m.sizes k l) j e in
      let f : neighbour m.sizes k j ≡ number m.sizes q = ap (number_at m.sizes) e in
      record { lt = l; works_k = w; speaker = q; there = e; free = rw (f, faulty_place m q inn) at v }

  -- where two talk there is neither the edge nor a wall
  pub pair_edge : T (pair m k j) → next m.sizes p j ≡ None → ⊥
  pair_edge t e = let h : next m.sizes p j ≡ Some (pair_talks t).speaker = (pair_talks t).there in let z : ◌≡◌ {A = ℕ} 0 1 = cc in omega arith

  pub pair_wall : (q : Place) → T (pair m k j) → next m.sizes p j ≡ Some q → T (wall m p j q) → ⊥
  pair_wall q t e b =
      let r = pair_talks t in
      let h : next m.sizes p j ≡ Some r.speaker = r.there in
      let f : q ≡ r.speaker = cc in
      (T-no (wall m p j r.speaker)).0 r.free (rw f at b)
