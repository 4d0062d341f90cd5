-- Which refusal stands, check by check, and what the checks before it have granted. Assumes nothing.
use mathlib.Core.Path.{◌≡◌}
use mathlib.Core.Bool.{true}
use mathlib.Core.List.{List}
use Prim.Native.Nat.{ℕ, ◌+◌, ◌-◌, ◌≤◌}
use native.Mathlib.Omega.{arith}
use borrow.Author.Tests.{le-leb, eq-eqb}
use lib.ListN.{length, take, drop, length-take, length-drop}
use lib.Seq.{take_at}
use Rattle.mesh.specs.Tools.{between}
use Rattle.mesh.specs.Mesh.{InRange, nodes}
use Rattle.mesh.specs.Answers.{check_map, accepted}
use Rattle.mesh.specs.Order.{map_checks}
use Rattle.mesh.specs.declared.Sizes.{Sizes}
use Rattle.mesh.specs.declared.Refusal.{Refusal}
use Rattle.mesh.proofs.Answers.{sizes_is}
use Rattle.mesh.proofs.Tests.{T-and, T-le, holds_true}
use Rattle.mesh.proofs.Order.{all_pass, map_decided}
use Rattle.format.specs.Format.{distance, sizes_in, cells_in}
use Rattle.format.specs.Entry.{check_frame, check_trailer, read_check, read_answer, read_written, read_out, write_check}
use Rattle.format.proofs.Order.{frame_passes, trailer_passes, read_passes, write_passes}
use Rattle.std.specs.Prelude.{Ok, Err}

pub between_least : (a b n : ℕ) → between a b n ≡ true → a ≤ n
between_least a b n e = let (l, m) = simp (T-and, T-le) at ((holds_true (between a b n)).1 e) in l

module _ (file : List ℕ) where
  -- ---- length, mark and zero byte

  pub frame_least : check_frame file ≡ accepted → 12 ≤ length file
  frame_least e = ((frame_passes file).0 e).0.least

  -- what the trailer grants
  pub trailer_says : check_trailer file ≡ accepted → (12 ≤ length file) × InRange (sizes_in file) × (distance (sizes_in file) ≤ length file)
  trailer_says e = let (f, (s, (r, _))) = (trailer_passes file).0 e in (f.least, s, r.inside)

  -- ---- after these the room, and the cells

  -- N cells stand before the trailer where there is room for them
  pub cells_size : distance (sizes_in file) ≤ length file → length (cells_in file) ≡ nodes (sizes_in file)
  unfolding cells_in
  cells_size h = simp (length-take, length-drop) (omega arith)

  -- a check of the whole map repeats what is known, and then looks at the cells
  pub read_cells : (room : ℕ) → check_trailer file ≡ accepted → nodes (sizes_in file) ≤ room → read_check file room ≡ check_map (sizes_in file) (cells_in file)
  unfolding read_check check_map
  read_cells room e h =
      let q = trailer_says e in
      let n = nodes (sizes_in file) in
      rw (e, le-leb n room h, sizes_is (sizes_in file) q.1, eq-eqb (length (cells_in file)) n (cells_size q.2))

  -- the bytes that the code takes are the cells
  pub cells_part : (n : ℕ) → n ≡ nodes (sizes_in file) → take n (drop (length file - (n + 12)) file) ≡ cells_in file
  unfolding cells_in
  cells_part n e = rw e

  pub not_read : (room : ℕ) (r : Refusal) → read_check file room ≡ Err r → read_answer file room ≡ Err r
  unfolding read_answer
  not_read room r e = rw e

  pub is_read : (room : ℕ) → read_check file room ≡ accepted → read_answer file room ≡ Ok (sizes_in file)
  unfolding read_answer
  is_read room e = rw e

  -- what is read is in order, and stands in front
  pub read_ordered : (room : ℕ) → read_check file room ≡ accepted → check_map (sizes_in file) (cells_in file) ≡ accepted
  read_ordered room e =
      let (f, (s, (r, (h, (g, _))))) = (read_passes file room).0 e in
      let S = sizes_in file in
      let cells = cells_in file in
      (all_pass (map_checks S cells) (check_map S cells) (map_decided S cells)).1 (s, (cells_size r.inside, (g, tt)))

  pub read_front : (out : List ℕ) → read_check file (length out) ≡ accepted → take (nodes (sizes_in file)) (read_out file out) ≡ cells_in file
  unfolding read_written
  read_front out e =
      let (f, (s, (r, _))) = (read_passes file (length out)).0 e in
      let n = nodes (sizes_in file) in
      rw e (take_at (cells_in file) (drop n out) n (cells_size r.inside))

-- ---- writing: the map, and the room

module _ (S : Sizes) (cells : List ℕ) (room : ℕ) where
  pub write_says : write_check S cells room ≡ accepted → InRange S × (length cells ≡ nodes S) × (distance S ≤ room)
  write_says e = let (s, (l, (g, (r, _)))) = (write_passes S cells room).0 e in (s, l, r)
