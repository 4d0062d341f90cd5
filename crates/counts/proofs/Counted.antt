-- What is counted among cells and mark bytes is the number of nodes that are faulty, or hold a mark. Assumes nothing.
use mathlib.Core.Path.{◌≡◌, sym, ap, ◌∙◌}
use mathlib.Core.List.{List}
use Prim.Native.Nat.{ℕ, ◌<◌}
use lib.ListN.{length, get_or}
use Rattle.mesh.specs.Tools.{count}
use Rattle.mesh.specs.Mesh.{nodes, place_of}
use Rattle.mesh.specs.Cells.{Map, map_of, faulty_cell, faulty}
use Rattle.rules.specs.Marks.{Kind, useless, cant_reach, has, holds, mark_at, marks_of}
use Rattle.mesh.specs.Answers.{check_map, accepted}
use Rattle.mesh.specs.declared.Sizes.{Sizes}
use Rattle.mesh.proofs.Numbers.{number_of, place_in}
use Rattle.rules.proofs.Bytes.{mark_has}
use Rattle.rules.proofs.Marks.{marks_length, marks_at}
use Rattle.mesh.proofs.Answers.{map_granted}
use Rattle.counts.specs.Counts.{faulty_count, marked_count, faulty_among, with_bit}
use Rattle.counts.proofs.Tally.{count_same}

-- the mark byte of a node in the list of them
marks_byte : (m : Map) (o k : ℕ) → k < nodes m.sizes → get_or (marks_of m o) k 0 ≡ mark_at m o (place_of m.sizes k)
marks_byte m o k h =
    ap (λ (i : ℕ). get_or (marks_of m o) i 0) (sym (number_of m.sizes k))
    ∙ marks_at m o (place_of m.sizes k) (place_in m.sizes k h)

-- the nodes that have a mark, by their bytes
has_counted : (m : Map) (o : ℕ) (a : Kind) → count (length (marks_of m o)) (λ k. has (get_or (marks_of m o) k 0) a) ≡ marked_count m o a
unfolding marked_count
has_counted m o a =
    ap (λ (n : ℕ). count n λ k. has (get_or (marks_of m o) k 0) a) (marks_length m o)
    ∙ count_same (nodes m.sizes) (λ k. has (get_or (marks_of m o) k 0) a) (λ k. holds m o (place_of m.sizes k) a) λ k h.
    ap (λ (b : ℕ). has b a) (marks_byte m o k h) ∙ mark_has m o (place_of m.sizes k) a (place_in m.sizes k h)

pub useless_counted : (m : Map) (o : ℕ) → with_bit (marks_of m o) 2 ≡ marked_count m o useless
unfolding has
useless_counted m o = has_counted m o useless

pub cant_reach_counted : (m : Map) (o : ℕ) → with_bit (marks_of m o) 4 ≡ marked_count m o cant_reach
unfolding has
cant_reach_counted m o = has_counted m o cant_reach

module _ (S : Sizes) (cells : List ℕ) (ordered : check_map S cells ≡ accepted) where
  pub faulty_counted : faulty_among cells ≡ faulty_count (map_of S cells)
  unfolding faulty_count
  faulty_counted =
      let c = map_granted S cells ordered in
      ap (λ (n : ℕ). count n λ k. faulty_cell (get_or cells k 0)) c.whole
      ∙ count_same (nodes S) (λ k. faulty_cell (get_or cells k 0)) (λ k. faulty (map_of S cells) (place_of S k)) λ k h.
      ap (λ (i : ℕ). faulty_cell (get_or cells i 0)) (sym (number_of S k))
