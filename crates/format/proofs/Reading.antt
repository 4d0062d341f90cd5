-- What is read is what the trailer says: reading grants the map S exactly where the file is one of S. Assumes nothing.
use mathlib.Core.Path.{◌≡◌, refl, sym, ap, ◌∙◌, subst}
use mathlib.Core.Logic.{◌↔◌}
use mathlib.Core.List.{List, [], ◌∷◌, ◌++◌}
use Prim.Native.Nat.{ℕ, ◌+◌, ◌-◌, ◌≤◌}
use native.Mathlib.Omega.{arith}
use lib.ListN.{length, get_or, take, drop, length-append, length-drop, take-append-drop}
use lib.Seq.{ext_get_or, get_or-drop, drop-drop, get_or-append-add, take_at, drop_at}
use Rattle.mesh.specs.Tools.{table}
use Rattle.mesh.specs.Mesh.{InRange, nodes}
use Rattle.mesh.specs.Answers.{granted, answered, answer_no, accepted, Answer}
use Rattle.mesh.specs.Order.{AllPass, NoneBad, InOrder}
use Rattle.mesh.specs.declared.Sizes.{Sizes}
use Rattle.mesh.proofs.Tables.{length_table, get_d_table}
use Rattle.mesh.proofs.Numbers.{nodes_le}
use Rattle.mesh.proofs.Order.{not_zero}
use Rattle.octets.specs.LittleEndian.{four_bytes}
use Rattle.octets.proofs.LittleEndian.{bytes_of, number_back}
use Rattle.format.specs.Format.{file_mark, file_limit, distance, trailer, file_of, MapFile, trailer_at, sizes_in, distance_in, cells_in}
use Rattle.format.specs.Entry.{map_read_sizes, read_check, read_answer, read_written, read_out}
use Rattle.format.specs.Promise.{Framed, Reaches, read_checks, Bytes}
use Rattle.format.proofs.Order.{read_passes}
use Rattle.format.proofs.Refusals.{cells_size}
use Rattle.std.specs.Prelude.{Ok, Err}

-- ---- a file that is read is a map file

module _ (file : List ℕ) (bytes : Bytes file) (f : Framed file) (r : Reaches file) where
  abbrev S : Sizes
  S = sizes_in file

  -- the last twelve bytes, one by one
  end : drop (length file - 12) file ≡ table (trailer_at file) 12
  end = ext_get_or 0 (drop (length file - 12) file) (table (trailer_at file) 12) (simp (length-drop, length_table) (omega (arith, f.least)))
      λ i h.
      get_or-drop (length file - 12) file i 0
      ∙ sym (get_d_table (trailer_at file) 12 i 0 (omega (arith, length-drop (length file - 12) file, f.least)))

  distance_bytes : four_bytes (distance S) ≡ trailer_at file 4 ∷ trailer_at file 5 ∷ trailer_at file 6 ∷ trailer_at file 7 ∷ []
  distance_bytes =
      let at : ℕ → ℕ = λ i. length file - 12 + i in
      ap four_bytes (sym r.says)
      ∙ bytes_of (trailer_at file 4) (trailer_at file 5) (trailer_at file 6) (trailer_at file 7)
      (bytes (at 4)) (bytes (at 5)) (bytes (at 6)) (bytes (at 7))

  its_trailer : table (trailer_at file) 12 ≡ trailer S
  unfolding table trailer
  its_trailer =
      rw (f.zero_byte, f.mark 0 (omega arith), f.mark 1 (omega arith), f.mark 2 (omega arith), f.mark 3 (omega arith))
      (ap (λ (l : List ℕ). (S.w ∷ S.h ∷ S.d ∷ 0 ∷ l) ++ file_mark) (sym distance_bytes))

  -- the cells stand between the notes and the trailer
  its_parts : file ≡ take (length file - distance S) file ++ file_of S (cells_in file)
  unfolding cells_in
  its_parts =
      let a : ℕ = length file - distance S in
      let e : a + nodes S ≡ length file - 12 = omega (arith, r.inside) in
      sym (take-append-drop a file)
      ∙ ap (λ (l : List ℕ). take a file ++ l) (sym (take-append-drop (nodes S) (drop a file)))
      ∙ ap (λ (l : List ℕ). take a file ++ (take (nodes S) (drop a file) ++ l))
      (drop-drop (nodes S) a file ∙ ap (λ (n : ℕ). drop n file) e ∙ end ∙ its_trailer)

  its_file : InRange S → NoneBad S (cells_in file) → MapFile S (cells_in file) file
  its_file s g =
      record {
        notes = take (length file - distance S) file;
        parts = its_parts;
        fits = f.fits;
        in_order = record { sized = s; whole = cells_size file r.inside; good = g };
      }

-- ---- a map file is read

module _ (S : Sizes) (notes cells : List ℕ) (m : InOrder S cells) where
  abbrev its : List ℕ
  its = notes ++ file_of S cells

  size : length its ≡ length notes + (nodes S + 12)
  unfolding trailer
  size =
      length-append notes (file_of S cells)
      ∙ ap (λ (n : ℕ). length notes + n) (length-append cells (trailer S) ∙ ap (λ (n : ℕ). n + 12) m.whole)

  byte : (i : ℕ) → trailer_at its i ≡ get_or (trailer S) i 0
  byte i =
      let e : length its - 12 + i ≡ length notes + (length cells + i) = omega (arith, size, m.whole) in
      ap (λ (n : ℕ). get_or its n 0) e ∙ get_or-append-add notes (file_of S cells) (length cells + i) 0 ∙ get_or-append-add cells (trailer S) i 0

  sizes_are : sizes_in its ≡ S
  unfolding trailer
  sizes_are = rw (byte 0, byte 1, byte 2)

  distance_is : distance_in its ≡ distance S
  unfolding trailer
  distance_is = rw (byte 4, byte 5, byte 6, byte 7) (number_back (distance S) (omega (arith, nodes_le S m.sized)))

  mark_at : (i : ℕ) → trailer_at its (8 + i) ≡ get_or file_mark i 0
  unfolding trailer
  mark_at i = byte (8 + i) ∙ get_or-append-add (S.w ∷ S.h ∷ S.d ∷ 0 ∷ four_bytes (distance S)) file_mark i 0

  cells_are : cells_in its ≡ cells
  unfolding cells_in
  cells_are =
      let start : length notes ≡ length its - distance S = omega (arith, size) in
      ap (λ (Z : Sizes). take (nodes Z) (drop (length its - distance Z) its)) sizes_are
      ∙ ap (take (nodes S)) (drop_at notes (file_of S cells) (length its - distance S) start)
      ∙ take_at cells (trailer S) (nodes S) m.whole

  read : (room : ℕ) → length its ≤ file_limit → nodes S ≤ room → AllPass (read_checks its room)
  unfolding trailer
  read room fits holds =
      let same : nodes (sizes_in its) ≡ nodes S = ap nodes sizes_are in
      let framed : Framed its = record { least = omega (arith, size); fits = fits; mark = λ i h. mark_at i; zero_byte = byte 3 } in
      let reaches : Reaches its = record { says = distance_is ∙ sym (ap distance sizes_are); inside = omega (arith, size, same) } in
      (framed, (rw sizes_are m.sized, (reaches, (omega (arith, same), (rw (cells_are, sizes_are) m.good, tt)))))

-- ---- the two together

pub read_as : (a : Answer) (Z S : Sizes) → ((answer_no (answered a Z) ≡ 0) × (map_read_sizes (answered a Z) ≡ S)) ↔ ((a ≡ accepted) × (Z ≡ S))
read_as (Ok _) Z S = (λ q. (refl, q.1), λ q. (refl, q.1))
read_as (Err r) Z S = (
  λ q. absurd (not_zero r q.0),
  λ q. let z : ◌≡◌ {A = ℕ} 0 1 = cc q.0 in absurd (omega arith),
)

module _ (file : List ℕ) {S : Sizes} {cells : List ℕ} (f : MapFile S cells file) where
  pub file_sizes : sizes_in file ≡ S
  file_sizes = ap sizes_in f.parts ∙ sizes_are S f.notes cells f.in_order

  file_cells : cells_in file ≡ cells
  file_cells = ap cells_in f.parts ∙ cells_are S f.notes cells f.in_order

  pub file_granted : (room : ℕ) → nodes S ≤ room → read_check file room ≡ accepted
  file_granted room h =
      let fits : length (f.notes ++ file_of S cells) ≤ file_limit = subst (λ (l : List ℕ). length l ≤ file_limit) f.parts f.fits in
      let all = read S f.notes cells f.in_order room fits h in
      (read_passes file room).1 (subst (λ (l : List ℕ). AllPass (read_checks l room)) (sym f.parts) all)

-- "what is read is what the trailer says": reading grants S exactly where the file is one of S, notes and cells and trailer, and there is room
pub read_exactly : (file : List ℕ) → Bytes file → (room : ℕ) (S : Sizes)
    → ((answer_no (read_answer file room) ≡ 0) × (map_read_sizes (read_answer file room) ≡ S))
    ↔ ((cells : List ℕ) × MapFile S cells file × (nodes S ≤ room))
unfolding read_answer
read_exactly file bytes room S = (
  λ e.
      let (done, same) = (read_as (read_check file room) (sizes_in file) S).0 e in
      let (f, (s, (r, (h, (g, _))))) = (read_passes file room).0 done in
      subst (λ (Z : Sizes). (cells : List ℕ) × MapFile Z cells file × (nodes Z ≤ room)) same (cells_in file, its_file file bytes f r s g, h),
  λ q. (read_as (read_check file room) (sizes_in file) S).1 (file_granted file q.1 room q.2, file_sizes file q.1),
)

-- and the bytes then lent have its cells in front
pub read_out_lem : (file : List ℕ) {S : Sizes} {cells : List ℕ} → MapFile S cells file → (out : List ℕ) → read_check file (length out) ≡ accepted
    → read_out file out ≡ cells ++ drop (nodes S) out
unfolding read_written
read_out_lem file {S} {cells} f out done =
    ap (λ (a : Answer). granted a (cells_in file ++ drop (nodes (sizes_in file)) out) out) done
    ∙ ap (λ (l : List ℕ). l ++ drop (nodes (sizes_in file)) out) (file_cells file f)
    ∙ ap (λ (Z : Sizes). cells ++ drop (nodes Z) out) (file_sizes file f)
