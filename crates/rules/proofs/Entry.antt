-- The call for the marks: which refusal stands, what a grant tells, and what is to be written. Assumes nothing.
use mathlib.Core.Path.{◌≡◌, ◌∙◌}
use mathlib.Core.List.{List, [], ◌∷◌, ◌++◌}
use Prim.Native.Nat.{ℕ, ◌≤◌}
use native.Mathlib.Omega.{arith}
use lib.Dec.{leb}
use lib.ListN.{length, get_or, drop, get_or-append}
use Rattle.mesh.specs.Mesh.{nodes, number, Inside}
use Rattle.mesh.specs.Cells.{map_of}
use Rattle.mesh.specs.Answers.{answer_no, answer_bad, ◌and_then◌, check_map, check_orientation, check_room, accepted}
use Rattle.mesh.specs.Order.{◌else◌, map_checks, NamesBad}
use Rattle.mesh.specs.declared.Sizes.{Sizes}
use Rattle.mesh.specs.declared.Place.{Place}
use Rattle.mesh.specs.declared.Refusal.TheVariants.{BadNumber, NoRoom}
use Rattle.mesh.proofs.Answers.{split, Checked, map_granted, orientation_granted, room_granted}
use Rattle.mesh.proofs.Order.{◌decide◌, decides_then, map_decided, orientation_decided, room_decided, bad_after, bad_map}
use Rattle.mesh.proofs.Fill.{front_kept, front_size}
use Rattle.mesh.proofs.Numbers.{number_lt}
use Rattle.rules.specs.Marks.{mark_at, marks_of}
use Rattle.rules.specs.Promise.{marks_checks}
use Rattle.rules.specs.Entry.{marks_answer, marks_written}
use Rattle.rules.proofs.Marks.{marks_length, marks_at}

-- a granted call: the map is in order, the orientation is one, and there is room
pub record Granted (S : Sizes) (cells : List ℕ) (o room : ℕ) : Type 0 where
  pub map : Checked S cells
  pub orientation : o ≤ 7
  pub fits : nodes S ≤ room

module _ (S : Sizes) (cells : List ℕ) (o room : ℕ) where
  pub marks_granted : marks_answer S cells o room ≡ accepted → Granted S cells o room
  unfolding marks_answer
  marks_granted e =
      let (q, r) = split (check_map S cells and_then check_orientation o) (check_room (nodes S) room) e in
      let (s, t) = split (check_map S cells) (check_orientation o) q in
      record { map = map_granted S cells s; orientation = orientation_granted o t; fits = room_granted (nodes S) room r }

  pub marks_decided : marks_checks S cells o room decide marks_answer S cells o room
  unfolding marks_answer
  marks_decided =
      decides_then (map_checks S cells ++ (o ≤ 7) else 5 ∷ []) ((nodes S ≤ room) else 3 ∷ []) (check_map S cells and_then check_orientation o) (check_room (nodes S) room)
      (decides_then (map_checks S cells) ((o ≤ 7) else 5 ∷ []) (check_map S cells) (check_orientation o) (map_decided S cells) (orientation_decided o))
      (room_decided (nodes S) room)

  pub marks_bad : NamesBad S cells (answer_no (marks_answer S cells o room)) (answer_bad (marks_answer S cells o room))
  unfolding marks_answer
  marks_bad =
      bad_after S cells (check_map S cells and_then check_orientation o) (leb (nodes S) room) NoRoom (λ z. omega arith)
      (bad_after S cells (check_map S cells) (leb o 7) BadNumber (λ z. omega arith) (bad_map S cells))

-- ---- what is to be written

module _ (S : Sizes) (cells : List ℕ) (o : ℕ) (old : List ℕ) where
  pub written_at : (p : Place) → Inside S p → get_or (marks_written S cells o old) (number S p) 0 ≡ mark_at (map_of S cells) o p
  unfolding marks_written
  written_at p i =
      get_or-append (marks_of (map_of S cells) o) (drop (nodes S) old) 0 (number S p) (rw (marks_length (map_of S cells) o) (number_lt S p i))
      ∙ marks_at (map_of S cells) o p i

  pub written_kept : (k : ℕ) → nodes S ≤ k → get_or (marks_written S cells o old) k 0 ≡ get_or old k 0
  unfolding marks_written
  written_kept = front_kept (marks_of (map_of S cells) o) old (nodes S) (marks_length (map_of S cells) o)

  pub written_size : nodes S ≤ length old → length (marks_written S cells o old) ≡ length old
  unfolding marks_written
  written_size = front_size (marks_of (map_of S cells) o) old (nodes S) (marks_length (map_of S cells) o)
