-- The calls on a map that is in order are granted, and what the marks' call leaves in front. Assumes nothing.
use mathlib.Core.Path.{◌≡◌}
use mathlib.Core.List.{List}
use Prim.Native.Nat.{ℕ, ◌≤◌}
use native.Mathlib.Omega.{arith}
use borrow.Author.Tests.{le-leb}
use lib.ListN.{length, take, drop}
use lib.Seq.{take_at}
use Rattle.mesh.specs.Mesh.{nodes}
use Rattle.mesh.specs.Cells.{map_of}
use Rattle.mesh.specs.Answers.{check_map, accepted}
use Rattle.mesh.specs.declared.Sizes.{Sizes}
use Rattle.mesh.proofs.Numbers.{nodes_le}
use Rattle.mesh.proofs.Answers.{map_granted}
use Rattle.rules.specs.Marks.{marks_of}
use Rattle.rules.proofs.Marks.{marks_length}
use Rattle.rules.specs.Entry.{marks_answer, marks_written, marks_out}
use Rattle.touching.specs.Components.{how_many}
use Rattle.touching.specs.Entry.{components_check}
use Rattle.touching.proofs.Numbers.{how_many_le}

module _ (S : Sizes) (cells : List ℕ) (ordered : check_map S cells ≡ accepted) where
  few : nodes S ≤ 4096
  few = nodes_le S (map_granted S cells ordered).sized

  pub marks_granted : (o : ℕ) → o ≤ 7 → marks_answer S cells o 4096 ≡ accepted
  unfolding marks_answer
  marks_granted o h = rw (ordered, le-leb o 7 h, le-leb (nodes S) 4096 few)

  -- the bytes in front of what `marks` leaves
  pub marks_front : (o : ℕ) → o ≤ 7 → (old : List ℕ) → length old ≡ 4096 → take (nodes S) (marks_out S cells o old) ≡ marks_of (map_of S cells) o
  unfolding marks_written
  marks_front o h old e =
      rw (e, marks_granted o h) (take_at (marks_of (map_of S cells) o) (drop (nodes S) old) (nodes S) (marks_length (map_of S cells) o))

  pub components_granted : (o : ℕ) → o ≤ 7 → components_check S cells o 4096 4096 ≡ accepted
  unfolding components_check
  components_granted o h =
      let marks = marks_of (map_of S cells) o in
      let fits : how_many S marks ≤ 4096 = omega (arith, how_many_le S marks, marks_length (map_of S cells) o, few) in
      rw (ordered, le-leb o 7 h, le-leb (nodes S) 4096 few, le-leb (how_many S marks) 4096 fits)
