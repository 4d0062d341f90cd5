-- The checks of reading and of writing decide their answers in the order of the promise, and name the first bad cell. Assumes nothing.
use mathlib.Core.Path.{◌≡◌}
use mathlib.Core.Logic.{◌↔◌, inl, inr}
use mathlib.Core.Bool.{Bool, ◌&&◌}
use mathlib.Core.List.{List, [], ◌∷◌, ◌++◌}
use Prim.Native.Nat.{ℕ, ◌≤◌}
use native.Mathlib.Omega.{arith}
use lib.Dec.{eqb, leb}
use lib.ListN.{length}
use Rattle.mesh.specs.Tools.{between}
use Rattle.mesh.specs.Mesh.{in_range, InRange, nodes}
use Rattle.mesh.specs.Answers.{answer_no, answer_bad, ◌and_then◌, unless, check_sizes, check_cells, check_map, check_room, accepted, Answer}
use Rattle.mesh.specs.Order.{Check, ◌else◌, AllPass, NoneBad, map_checks, NamesBad}
use Rattle.mesh.specs.declared.Sizes.{Sizes}
use Rattle.mesh.specs.declared.Refusal.TheVariants.{BadSizes, NoRoom, BadFile}
use Rattle.mesh.proofs.Tests.{T-and, T-eq, T-le, T-all}
use Rattle.mesh.proofs.Order.{◌decide◌, all_pass, decides_two, decides_then, decides_by, sizes_decided, room_decided, cells_decided, map_decided, bad_then, bad_unless, bad_after, bad_cells, bad_map}
use Rattle.format.specs.Format.{trailer_length, file_limit, distance, trailer_at, has_mark, sizes_in, distance_in, cells_in}
use Rattle.format.specs.Entry.{check_frame, check_trailer, read_check, write_check}
use Rattle.format.specs.Promise.{Framed, Reaches, read_checks, write_checks}

-- ---- reading

module _ (file : List ℕ) where
  abbrev S : Sizes
  S = sizes_in file

  abbrev long : Bool
  long = between trailer_length file_limit (length file)

  abbrev marked : Bool
  marked = has_mark file && eqb (trailer_at file 3) 0

  abbrev reaches : Bool
  reaches = eqb (distance_in file) (distance S) && leb (distance S) (length file)

  pub frame_decided : Framed file else 11 ∷ [] decide check_frame file
  unfolding check_frame has_mark
  frame_decided = decides_told (
    λ q. let ((l, f), (m, z)) = simp (T-and, T-all, T-le, T-eq) at q in record { least = l; fits = f; mark = m; zero_byte = z },
    λ f. simp (T-and, T-all, T-le, T-eq) ((f.least, f.fits), (f.mark, f.zero_byte)),
  )
      (decides_two long marked BadFile (λ t. t, λ t. t) (λ t. t, λ t. t))
    where
      decides_told : {P Q : Type 0} {n : ℕ} {a : Answer} → P ↔ Q → P else n ∷ [] decide a → Q else n ∷ [] decide a
      decides_told w (inl d) = inl (λ q. d.0 (w.1 q), d.1)
      decides_told w (inr d) = inr (w.0 d.0, d.1)

  reach_decided : Reaches file else 11 ∷ [] decide unless reaches BadFile
  reach_decided = decides_by reaches BadFile (
    λ t. let (e, l) = simp (T-and, T-eq, T-le) at t in record { says = e; inside = l },
    λ r. simp (T-and, T-eq, T-le) (r.says, r.inside),
  )

  abbrev trailer_checks : List Check
  trailer_checks = Framed file else 11 ∷ InRange S else 1 ∷ Reaches file else 11 ∷ []

  trailer_decided : trailer_checks decide check_trailer file
  unfolding check_trailer
  trailer_decided =
      decides_then (Framed file else 11 ∷ InRange S else 1 ∷ []) (Reaches file else 11 ∷ [])
      (check_frame file and_then check_sizes S) (unless reaches BadFile)
      (decides_then (Framed file else 11 ∷ []) (InRange S else 1 ∷ []) (check_frame file) (check_sizes S) frame_decided (sizes_decided S))
      reach_decided

  pub read_decided : (room : ℕ) → read_checks file room decide read_check file room
  unfolding read_check
  read_decided room =
      let roomy = check_room (nodes S) room in
      decides_then (trailer_checks ++ (nodes S ≤ room) else 3 ∷ []) (NoneBad S (cells_in file) else 4 ∷ [])
      (check_trailer file and_then roomy) (check_cells S (cells_in file))
      (decides_then trailer_checks ((nodes S ≤ room) else 3 ∷ []) (check_trailer file) roomy trailer_decided (room_decided (nodes S) room))
      (cells_decided S (cells_in file))

  -- granted exactly if all pass
  pub frame_passes : (check_frame file ≡ accepted) ↔ AllPass (Framed file else 11 ∷ [])
  frame_passes = all_pass (Framed file else 11 ∷ []) (check_frame file) frame_decided

  pub trailer_passes : (check_trailer file ≡ accepted) ↔ AllPass trailer_checks
  trailer_passes = all_pass trailer_checks (check_trailer file) trailer_decided

  pub read_passes : (room : ℕ) → (read_check file room ≡ accepted) ↔ AllPass (read_checks file room)
  read_passes room = all_pass (read_checks file room) (read_check file room) (read_decided room)

  pub read_bad : (room : ℕ) → NamesBad S (cells_in file) (answer_no (read_check file room)) (answer_bad (read_check file room))
  unfolding read_check check_trailer check_frame
  read_bad room =
      let cells = cells_in file in
      let first = unless long BadFile in
      let frame = first and_then unless marked BadFile in
      let sized = frame and_then check_sizes S in
      let reached = sized and_then unless reaches BadFile in
      bad_then S cells (reached and_then check_room (nodes S) room) (check_cells S cells)
      (bad_after S cells reached (leb (nodes S) room) NoRoom (λ z. omega arith)
      (bad_after S cells sized reaches BadFile (λ z. omega arith)
      (bad_after S cells frame (in_range S) BadSizes (λ z. omega arith)
      (bad_after S cells first marked BadFile (λ z. omega arith) (bad_unless S cells long BadFile (λ z. omega arith))))))
      (bad_cells S cells)

-- ---- writing

module _ (S : Sizes) (cells : List ℕ) (room : ℕ) where
  pub write_decided : write_checks S cells room decide write_check S cells room
  unfolding write_check
  write_decided =
      decides_then (map_checks S cells) ((distance S ≤ room) else 3 ∷ []) (check_map S cells) (check_room (distance S) room)
      (map_decided S cells) (room_decided (distance S) room)

  pub write_passes : (write_check S cells room ≡ accepted) ↔ AllPass (write_checks S cells room)
  write_passes = all_pass (write_checks S cells room) (write_check S cells room) write_decided

  pub write_bad : NamesBad S cells (answer_no (write_check S cells room)) (answer_bad (write_check S cells room))
  unfolding write_check
  write_bad =
      bad_after S cells (check_map S cells) (leb (distance S) room) NoRoom (λ z. omega arith) (bad_map S cells)
