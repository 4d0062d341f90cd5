-- What the promise of map files rules out, whoever reads and writes: one that refuses everything, one with a constant reply, and one that
-- leaves its output untouched. Assumes nothing.
use mathlib.Core.Path.{◌≡◌, refl, sym, ap, ◌∙◌}
use mathlib.Core.Logic.{◌≢◌}
use mathlib.Core.Bool.{Bool, true, ◌&&◌}
use mathlib.Core.List.{List, [], ◌∷◌, ◌++◌}
use Prim.Native.Nat.{ℕ, zero, suc}
use native.Mathlib.Omega.{arith}
use lib.Dec.{T, ltb}
use lib.ListN.{get_or, drop, replicate}
use Rattle.mesh.specs.Mesh.{sizes, in_range}
use Rattle.mesh.specs.Cells.{bad_cell, first_bad}
use Rattle.mesh.specs.Answers.{check_map, answer_no}
use Rattle.mesh.specs.declared.Sizes.{Sizes}
use Rattle.mesh.proofs.Tests.{T-and, T-lt}
use Rattle.format.specs.Format.{trailer, file_of, MapFile}
use Rattle.format.specs.Entry.{write_check, write_answer}
use Rattle.format.specs.Promise.{Bytes, Reads, Writes}
use Rattle.format.proofs.Promise.{writes, one_writing}

-- two maps, of 2 × 2 × 1 with one faulty node and of 2 × 3 × 1, and some room
abbrev flat : Sizes
flat = sizes 2 2 1

abbrev long : Sizes
long = sizes 2 3 1

abbrev few : List ℕ
few = 0 ∷ 1 ∷ 0 ∷ 0 ∷ []

abbrev more : List ℕ
more = 0 ∷ 0 ∷ 0 ∷ 0 ∷ 0 ∷ 0 ∷ []

abbrev room : List ℕ
room = replicate 20 0

flat_granted : answer_no (write_answer flat few 20) ≡ 0
unfolding write_answer write_check check_map in_range bad_cell first_bad
flat_granted = refl

long_granted : answer_no (write_answer long more 20) ≡ 0
unfolding write_answer write_check check_map in_range bad_cell first_bad
long_granted = refl

flat_file : MapFile flat few (file_of flat few)
flat_file = (writes flat few room).a_file flat_granted

long_file : MapFile long more (file_of long more)
long_file = (writes long more room).a_file long_granted

-- bytes are small
all_small : List ℕ → Bool
all_small [] = true
all_small (c ∷ cs) = ltb c 256 && all_small cs

small : (l : List ℕ) → T (all_small l) → Bytes l
unfolding all_small
small [] t i = omega arith
small (c ∷ cs) t zero = (T-lt c 256).0 ((T-and (ltb c 256) (all_small cs)).0 t).0
small (c ∷ cs) t (suc i) = small cs ((T-and (ltb c 256) (all_small cs)).0 t).1 i

flat_small : Bytes (file_of flat few)
unfolding all_small trailer
flat_small = small (file_of flat few) tt

long_small : Bytes (file_of long more)
unfolding all_small trailer
long_small = small (file_of long more) tt

-- ---- readers

module _ (refusal bad w h d : List ℕ → List ℕ → ℕ) (out : List ℕ → List ℕ → List ℕ)
    (keeps : (file old : List ℕ) → Bytes file
    → Reads file old (refusal file old) (bad file old) (w file old) (h file old) (d file old) (out file old)) where
  flat_read : refusal (file_of flat few) room ≡ 0
  flat_read = (keeps (file_of flat few) room flat_small).read flat_file (omega arith)

  long_read : refusal (file_of long more) room ≡ 0
  long_read = (keeps (file_of long more) room long_small).read long_file (omega arith)

  pub reads_refusing : ((file old : List ℕ) → refusal file old ≢ 0) → ⊥
  reads_refusing f = f (file_of flat few) room flat_read

  -- not even the height may be constant
  pub reads_constant : (n : ℕ) → ((file old : List ℕ) → h file old ≡ n) → ⊥
  reads_constant n f =
      let two : h (file_of flat few) room ≡ 2 = ((keeps (file_of flat few) room flat_small).given flat_read flat_file).1 in
      let three : h (file_of long more) room ≡ 3 = ((keeps (file_of long more) room long_small).given long_read long_file).1 in
      omega (arith, f (file_of flat few) room, f (file_of long more) room)

  pub reads_untouched : ((file old : List ℕ) → out file old ≡ old) → ⊥
  reads_untouched f =
      let e : few ++ drop 4 room ≡ room = sym ((keeps (file_of flat few) room flat_small).given flat_read flat_file).3 ∙ f (file_of flat few) room in
      let h : ◌≡◌ {A = ℕ} 1 0 = ap (λ (l : List ℕ). get_or l 1 0) e in
      omega arith

-- ---- writers

module _ (refusal bad n : Sizes → List ℕ → List ℕ → ℕ) (out : Sizes → List ℕ → List ℕ → List ℕ)
    (keeps : (S : Sizes) (cells old : List ℕ) → Writes S cells old (refusal S cells old) (bad S cells old) (n S cells old) (out S cells old)) where
  flat_written : refusal flat few room ≡ 0
  flat_written = (one_writing (keeps flat few room) (writes flat few room)).0 ∙ flat_granted

  long_written : refusal long more room ≡ 0
  long_written = (one_writing (keeps long more room) (writes long more room)).0 ∙ long_granted

  pub writes_refusing : ((S : Sizes) (cells old : List ℕ) → refusal S cells old ≢ 0) → ⊥
  writes_refusing f = f flat few room flat_written

  -- not even the length may be constant
  pub writes_constant : (k : ℕ) → ((S : Sizes) (cells old : List ℕ) → n S cells old ≡ k) → ⊥
  unfolding trailer
  writes_constant k f =
      let sixteen : n flat few room ≡ 16 = (keeps flat few room).size flat_written in
      let eighteen : n long more room ≡ 18 = (keeps long more room).size long_written in
      omega (arith, f flat few room, f long more room)

  pub writes_untouched : ((S : Sizes) (cells old : List ℕ) → out S cells old ≡ old) → ⊥
  unfolding trailer
  writes_untouched f =
      let e = sym ((keeps flat few room).written flat_written) ∙ f flat few room in
      let h : ◌≡◌ {A = ℕ} 1 0 = ap (λ (l : List ℕ). get_or l 1 0) e in
      omega arith
