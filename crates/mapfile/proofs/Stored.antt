-- What the reader and the writer store is what their answers say. Assumes nothing.
use mathlib.Core.Path.{◌≡◌, ap, ◌∙◌}
use mathlib.Core.List.{List, ◌++◌}
use Prim.Native.Nat.{ℕ, ◌+◌}
use native.Mathlib.Omega.{arith}
use lib.ListN.{length, drop, length-append}
use Rattle.mesh.specs.Mesh.{nodes}
use Rattle.mesh.specs.declared.Sizes.{Sizes}
use Rattle.format.specs.Format.{distance, trailer, cells_in}
use Rattle.format.specs.Entry.{read_check, read_written, read_out, write_check, write_written, write_out}
use Rattle.format.proofs.Order.{read_passes}
use Rattle.format.proofs.Refusals.{cells_size, write_says}
use Rattle.octets.specs.Stored.{stored}
use Rattle.octets.proofs.Stored.{stored_next, stored_front}
use Rattle.mesh.specs.Answers.{accepted}

pub read_stored : (file out : List ℕ) → read_check file (length out) ≡ accepted → stored out 0 (cells_in file) ≡ read_out file out
unfolding read_written
read_stored file out e =
    let (f, (s, (r, _))) = (read_passes file (length out)).0 e in
    rw e (stored_front out (cells_in file) ∙ ap (λ (n : ℕ). cells_in file ++ drop n out) (cells_size file r.inside))

pub write_stored : (S : Sizes) (cells out : List ℕ) → write_check S cells (length out) ≡ accepted
    → stored (stored out 0 cells) (nodes S) (trailer S) ≡ write_out S cells out
unfolding write_written trailer
write_stored S cells out e =
    let q = write_says S cells (length out) e in
    let at : nodes S ≡ 0 + length cells = omega (arith, q.1) in
    let size : length (cells ++ trailer S) ≡ distance S = length-append cells (trailer S) ∙ ap (λ (n : ℕ). n + 12) q.1 in
    rw e
    (ap (λ (n : ℕ). stored (stored out 0 cells) n (trailer S)) at
    ∙ stored_next out 0 cells (omega (arith, q.1, q.2)) (trailer S)
    ∙ stored_front out (cells ++ trailer S)
    ∙ ap (λ (n : ℕ). cells ++ trailer S ++ drop n out) size)
