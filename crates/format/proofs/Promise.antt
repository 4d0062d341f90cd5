-- Reading and writing as defined keep the promise of map files, and nothing else does; reading gives back what was written.
-- Assumes nothing.
use mathlib.Core.Path.{◌≡◌, refl, sym, ap, ◌∙◌, subst}
use mathlib.Core.Logic.{◌≢◌}
use mathlib.Core.List.{List, ◌++◌}
use Prim.Native.Nat.{ℕ, ◌≤◌}
use lib.ListN.{length, take, drop}
use lib.Seq.{take_at}
use Rattle.mesh.specs.Mesh.{nodes}
use Rattle.mesh.specs.Answers.{answer_no, answer_bad, answer_value, numbered_value, answered, accepted, Answer}
use Rattle.mesh.specs.Order.{◌give◌, InOrder, NamesBad}
use Rattle.mesh.specs.declared.Sizes.{Sizes}
use Rattle.mesh.proofs.Answers.{kept}
use native.Mathlib.Decide.{ℕ_discrete}
use Rattle.mesh.proofs.Order.{bad_one, one_number, gives, done_of, refused_of, numbered_as}
use Rattle.format.specs.Format.{distance, file_of, MapFile, sizes_in, cells_in}
use Rattle.format.specs.Entry.{map_read_sizes, read_check, read_answer, read_written, read_out, write_check, write_answer, write_written, write_out}
use Rattle.format.specs.Promise.{read_checks, write_checks, Bytes, Reads, Writes}
use Rattle.format.proofs.Order.{read_decided, read_bad, write_decided, write_passes, write_bad}
use Rattle.format.proofs.Refusals.{not_read, is_read}
use Rattle.format.proofs.Reading.{file_sizes, file_granted, read_exactly, read_out_lem}
use Rattle.format.proofs.Writing.{file_size, written_file}
use Rattle.std.specs.Prelude.{Ok, Err, Result}
use Rattle.mesh.specs.declared.Refusal.{Refusal}

-- ---- reading

read_numbers : (a : Answer) (S : Sizes) → (answer_no (answered a S) ≡ answer_no a) × (answer_bad (answered a S) ≡ answer_bad a)
read_numbers (Ok _) S = (refl, refl)
read_numbers (Err r) S = (refl, refl)

each : {S Z : Sizes} → S ≡ Z → (S.w ≡ Z.w) × (S.h ≡ Z.h) × (S.d ≡ Z.d)
each e = (ap (λ (S : Sizes). S.w) e, ap (λ (S : Sizes). S.h) e, ap (λ (S : Sizes). S.d) e)

module _ (file : List ℕ) (room : ℕ) where
  numbers : (answer_no (read_answer file room) ≡ answer_no (read_check file room)) × (answer_bad (read_answer file room) ≡ answer_bad (read_check file room))
  unfolding read_answer
  numbers = read_numbers (read_check file room) (sizes_in file)

  pub read_order : read_checks file room give answer_no (read_answer file room)
  read_order = rw numbers.0 (gives (read_checks file room) (read_check file room) (read_decided file room))

  pub read_names_bad : NamesBad (sizes_in file) (cells_in file) (answer_no (read_answer file room)) (answer_bad (read_answer file room))
  read_names_bad = rw (numbers.0, numbers.1) (read_bad file room)

  pub read_file : {S : Sizes} {cells : List ℕ} → MapFile S cells file → nodes S ≤ room → answer_no (read_answer file room) ≡ 0
  read_file f h = numbers.0 ∙ ap answer_no (file_granted file f room h)

module _ (file old : List ℕ) where
  abbrev answer : Result Sizes Refusal
  answer = read_answer file (length old)

  abbrev reading : Answer
  reading = read_check file (length old)

  told : answer_no answer ≡ answer_no reading
  told = (numbers file (length old)).0

  pub read_given : answer_no answer ≡ 0 → {S : Sizes} {cells : List ℕ} → MapFile S cells file
      → ((map_read_sizes answer).w ≡ S.w) × ((map_read_sizes answer).h ≡ S.h) × ((map_read_sizes answer).d ≡ S.d)
      × (read_out file old ≡ cells ++ drop (nodes S) old)
  read_given e f =
      let done = done_of reading (sym told ∙ e) in
      let q = each (ap map_read_sizes (is_read file (length old) done) ∙ file_sizes file f) in
      (q.0, q.1, q.2, read_out_lem file f old done)

  pub read_nothing : answer_no answer ≢ 0
      → ((map_read_sizes answer).w ≡ 0) × ((map_read_sizes answer).h ≡ 0) × ((map_read_sizes answer).d ≡ 0) × (read_out file old ≡ old)
  read_nothing n =
      let (r, e) = refused_of reading (λ z. n (told ∙ z)) in
      let q = each (ap map_read_sizes (not_read file (length old) r e)) in
      (q.0, q.1, q.2, kept reading r (read_written file old) old e)

  -- A file has bytes: that one which is read is the file of a map needs this, and nothing else does.
  pub reads : Bytes file → Reads file old (answer_no answer) (answer_bad answer) (map_read_sizes answer).w (map_read_sizes answer).h (map_read_sizes answer).d (read_out file old)
  reads bytes =
      record {
        order = read_order file (length old);
        names_bad = read_names_bad file (length old);
        read = read_file file (length old);
        of_a_map = λ e.
            let (cells, f, h) = (read_exactly file bytes (length old) (map_read_sizes answer)).0 (e, refl) in
            (map_read_sizes answer, cells, f, h);
        given = read_given;
        nothing = read_nothing;
      }

alike : {w h d w' h' d' x y z : ℕ} {new new' l : List ℕ} → (w ≡ x) × (h ≡ y) × (d ≡ z) × (new ≡ l) → (w' ≡ x) × (h' ≡ y) × (d' ≡ z) × (new' ≡ l)
    → (w ≡ w') × (h ≡ h') × (d ≡ d') × (new ≡ new')
alike a b = (a.0 ∙ sym b.0, a.1 ∙ sym b.1, a.2 ∙ sym b.2, a.3 ∙ sym b.3)

-- "Any two outcomes it allows are proved equal."
pub one_reading : {file old : List ℕ} {r b w h d r' b' w' h' d' : ℕ} {new new' : List ℕ}
    → Reads file old r b w h d new → Reads file old r' b' w' h' d' new'
    → (r ≡ r') × (b ≡ b') × (w ≡ w') × (h ≡ h') × (d ≡ d') × (new ≡ new')
one_reading {file} {old} {r} {b} {w} {h} {d} {r'} {b'} {w'} {h'} {d'} {new} {new'} p q =
    let same = one_number (read_checks file (length old)) r r' p.order q.order in
    let cell = bad_one (sizes_in file) (cells_in file) r b b' p.names_bad (rw same q.names_bad) in
    let rest : (w ≡ w') × (h ≡ h') × (d ≡ d') × (new ≡ new') = elim (ℕ_discrete r 0) [
      | yes e ↦ let (S, cells, f, _) = p.of_a_map e in alike (p.given e f) (q.given (sym same ∙ e) f)
      | no n ↦ alike (p.nothing n) (q.nothing (λ e. n (same ∙ e)))
    ] in
    (same, cell, rest.0, rest.1, rest.2, rest.3)

-- ---- writing

module _ (S : Sizes) (cells old : List ℕ) where
  abbrev writing : Answer
  writing = write_check S cells (length old)

  abbrev counted : Result ℕ Refusal
  counted = write_answer S cells (length old)

  values : (answer_no counted ≡ answer_no writing) × (answer_bad counted ≡ answer_bad writing)
      × (numbered_value counted ≡ answer_value writing (distance S))
  unfolding write_answer
  values = numbered_as writing (distance S)

  done : answer_no counted ≡ 0 → writing ≡ accepted
  done e = done_of writing (sym values.0 ∙ e)

  counts : answer_no counted ≡ 0 → numbered_value counted ≡ distance S
  counts e = values.2 ∙ ap (λ (a : Answer). answer_value a (distance S)) (done e)

  ordered : answer_no counted ≡ 0 → InOrder S cells
  ordered e = let (s, (l, (g, _))) = (write_passes S cells (length old)).0 (done e) in record { sized = s; whole = l; good = g }

  pub writes : Writes S cells old (answer_no counted) (answer_bad counted) (numbered_value counted) (write_out S cells old)
  unfolding write_written
  writes =
      record {
        order = rw values.0 (gives (write_checks S cells (length old)) writing (write_decided S cells (length old)));
        names_bad = rw (values.0, values.1) (write_bad S cells (length old));
        size = λ e. counts e ∙ sym (file_size S cells (ordered e).whole);
        written = λ e. rw (done e, counts e);
        a_file = λ e. written_file S cells (ordered e);
        nothing = λ n.
            let (r, e) = refused_of writing (λ z. n (values.0 ∙ z)) in
            (values.2 ∙ ap (λ (a : Answer). answer_value a (distance S)) e, kept writing r (write_written S cells old) old e);
      }

pub one_writing : {S : Sizes} {cells old : List ℕ} {r b n r' b' n' : ℕ} {new new' : List ℕ}
    → Writes S cells old r b n new → Writes S cells old r' b' n' new'
    → (r ≡ r') × (b ≡ b') × (n ≡ n') × (new ≡ new')
one_writing {S} {cells} {old} {r} {b} {n} {r'} {b'} {n'} {new} {new'} p q =
    let same = one_number (write_checks S cells (length old)) r r' p.order q.order in
    let cell = bad_one S cells r b b' p.names_bad (rw same q.names_bad) in
    let rest : (n ≡ n') × (new ≡ new') = elim (ℕ_discrete r 0) [
      | yes e ↦
          let e' = sym same ∙ e in
          let size : n ≡ n' = p.size e ∙ sym (q.size e') in
          (size, p.written e ∙ ap (λ (k : ℕ). file_of S cells ++ drop k old) size ∙ sym (q.written e'))
      | no z ↦
          let a = p.nothing z in
          let b = q.nothing (λ e. z (same ∙ e)) in
          (a.0 ∙ sym b.0, a.1 ∙ sym b.1)
    ] in
    (same, cell, rest.0, rest.1)

-- ---- "reading gives back what was written": the bytes written, as many as the writer says, read into any room that holds the cells

pub gives_back : {S : Sizes} {cells old new : List ℕ} {r b n : ℕ} → Writes S cells old r b n new → r ≡ 0
    → {room out : List ℕ} {refusal bad w h d : ℕ} → Reads (take n new) room refusal bad w h d out → nodes S ≤ length room
    → (refusal ≡ 0) × (w ≡ S.w) × (h ≡ S.h) × (d ≡ S.d) × (out ≡ cells ++ drop (nodes S) room)
gives_back {S} {cells} {old} {new} {n = n} p e q l =
    let front : take n new ≡ file_of S cells = ap (take n) (p.written e) ∙ take_at (file_of S cells) (drop n old) n (sym (p.size e)) in
    let f = subst (MapFile S cells) (sym front) (p.a_file e) in
    let z = q.read f l in
    let a = q.given z f in
    (z, a.0, a.1, a.2, a.3)
