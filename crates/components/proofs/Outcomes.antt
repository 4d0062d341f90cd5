-- Which refusal stands, and that what is computed is what the call's equations say. Assumes nothing.
use mathlib.Core.Path.{◌≡◌, refl, sym, ap, ◌∙◌}
use mathlib.Core.Logic.{inl, inr}
use mathlib.Core.Bool.{true}
use mathlib.Core.List.{List, [], ◌++◌}
use Prim.Native.Nat.{ℕ, zero, suc, ◌+◌, ◌-◌, ◌≤◌, ◌<◌, min}
use native.Mathlib.Omega.{arith}
use borrow.Author.Tests.{le-leb, lt-leb}
use lib.Dec.{T, leb}
use lib.ListN.{length, get_or, take, drop, length-drop, length-replicate, take-append-drop}
use lib.Seq.{ext_get_or, get_or-drop, length-take-le, take_at}
use Rattle.mesh.specs.Mesh.{InRange, nodes, place}
use Rattle.mesh.specs.Cells.{map_of}
use Rattle.rules.specs.Marks.{marks_of}
use Rattle.mesh.specs.Answers.{granted, answered, answer_value, ◌and_then◌, check_map, check_orientation, check_room, accepted, Answer}
use Rattle.mesh.specs.declared.Sizes.{Sizes}
use Rattle.mesh.specs.declared.Refusal.{Refusal}
use Rattle.mesh.specs.declared.Refusal.TheVariants.{NoRoom}
use Rattle.mesh.proofs.Numbers.{nodes_le}
use Rattle.mesh.proofs.Answers.{split, room_granted, map_granted}
use Rattle.rules.proofs.Marks.{marks_length}
use Rattle.rules.specs.Entry.{marks_answer}
use Rattle.touching.specs.Components.{table_of, records_of, how_many}
use Rattle.touching.proofs.Records.{promise}
use Rattle.touching.specs.Entry.{components_check, components_answer, components_table, components_row, table_written, row_written}
use Rattle.grids.specs.Grid.{grid_size, grid_at}
use Rattle.grids.specs.Layout.{copied}
use Rattle.floods.specs.Label.{alone, no_records, Untouched, Within, Labelled}
use Rattle.components.specs.Outcome.{Gridded, room_check, Answered, stored_of, in_room, Computed}
use Rattle.touching.specs.declared.Component.{Component}
use Rattle.floods.specs.declared.Found.{Found}
use Rattle.components.proofs.Spots.{untouched, within}
use Rattle.components.proofs.Nodes.{numbers, as_defined}
use Rattle.std.specs.Prelude.{Ok, Err, Result}

-- ---- the records

-- where no record stands after those that are found, they stand in the room
in_room_lem : (f : Found) (found : List Component) → ((i : ℕ) (c : Component) → f.count ≤ i → get_or f.records i c ≡ get_or no_records i c)
    → take f.count f.records ≡ found → f.records ≡ in_room found
in_room_lem f found none e =
    sym (take-append-drop f.count f.records)
    ∙ ap (λ (l : List Component). l ++ drop f.count f.records) e
    ∙ ap (λ (l : List Component). found ++ l) (after ∙ ap (λ (k : ℕ). drop k no_records) (sym as_many))
  where
    blank : Component
    blank = alone (place 0 0 0) 0

    as_many : length found ≡ f.count
    as_many = ap length (sym e) ∙ length-take-le f.count f.records (omega (arith, f.few, f.room))

    after : drop f.count f.records ≡ drop f.count no_records
    after = ext_get_or blank (drop f.count f.records) (drop f.count no_records)
        (length-drop f.count f.records ∙ ap (λ (k : ℕ). k - f.count) (f.room ∙ sym (length-replicate 1024 blank))
        ∙ sym (length-drop f.count no_records))
        (λ i _. get_or-drop f.count f.records i blank ∙ none (f.count + i) blank (omega arith) ∙ sym (get_or-drop f.count no_records i blank))

-- in an empty grid none is found
none_found : (g h : List ℕ) (n : ℕ) (row : List Component) → ((j : ℕ) → get_or g j 0 ≡ 0) → Labelled g grid_size n h row → n ≡ 0
none_found g h zero row empty L = refl
none_found g h (suc n) row empty L =
    let (a, _, e, _) = L.linked 0 (omega arith) in
    elim (L.kept a) [ inl w ↦ absurd (omega (arith, empty a)) | inr w ↦ absurd (omega (arith, empty a, w.0)) ]

module _ (S : Sizes) (cells : List ℕ) (o : ℕ) (old : List ℕ) (room : ℕ) where
  abbrev marks : List ℕ
  marks = marks_of (map_of S cells) o

  abbrev check : Answer
  check = components_check S cells o (length old) room

  -- ---- which refusal stands

  pub sized : marks_answer S cells o 4096 ≡ accepted → InRange S
  unfolding marks_answer
  sized e = (map_granted S cells (split (check_map S cells) (check_orientation o)
      (split (check_map S cells and_then check_orientation o) (check_room (nodes S) 4096) e).0).0).sized

  -- a refusal of the marks is one of the map or of the orientation: their room always suffices; so it is one of this call
  refused_early : (r : Refusal) → marks_answer S cells o 4096 ≡ Err r → check_map S cells and_then check_orientation o ≡ Err r
  unfolding marks_answer
  refused_early r e = go (check_map S cells) (check_orientation o) refl e
    where
      go : (a b : Answer) → check_map S cells ≡ a → a and_then b and_then check_room (nodes S) 4096 ≡ Err r → a and_then b ≡ Err r
      go (Err x) b f e = e
      go (Ok _) (Err x) f e = e
      go (Ok _) (Ok _) f e =
          let q : leb (nodes S) 4096 ≡ true = le-leb (nodes S) 4096 (nodes_le S (map_granted S cells f).sized) in
          let z : ◌≡◌ {A = ℕ} 0 1 = cc (rw q at e) in
          absurd (omega arith)

  refused_here : (r : Refusal) → check_map S cells and_then check_orientation o ≡ Err r → check ≡ Err r
  unfolding components_check
  refused_here r e = rw e

  module _ (done : marks_answer S cells o 4096 ≡ accepted) where
    in_order : check_map S cells and_then check_orientation o ≡ accepted
    unfolding marks_answer
    in_order = (split (check_map S cells and_then check_orientation o) (check_room (nodes S) 4096) done).0

    rest : check ≡ check_room (nodes S) (length old) and_then check_room (how_many S marks) room
    unfolding components_check
    rest = rw in_order

    all_granted : nodes S ≤ length old → how_many S marks ≤ room → check ≡ accepted
    all_granted h k = rest ∙ rw (le-leb (nodes S) (length old) h, le-leb (how_many S marks) room k)

  -- ---- what is computed

  abbrev all : List Component
  all = in_room (granted (check_map S cells and_then check_orientation o) (records_of S marks) [])

  refused_computed : (r : Refusal) → check ≡ Err r → (x : Result ℕ Refusal) (k : Found) → (x ≡ Err r) × (k.count ≡ 0) × (k.records ≡ all)
      → Computed S cells o room old old x k
  unfolding components_answer
  refused_computed r e x k (a, c, f) = record { answer = rw e a; table = rw e; count = rw e c; records = f; in_row = omega arith }

  module _ (done : marks_answer S cells o 4096 ≡ accepted) (g h : List ℕ) (f : Found) (is : (j : ℕ) → get_or g j 0 ≡ grid_at S marks j)
      (L : Labelled g grid_size f.count h f.records) where
    found : (f.count ≡ how_many S marks)
        × (numbers S (sized done) marks g (marks_length (map_of S cells) o) is f.count (omega (arith, f.few)) h f.records L ≡ table_of S marks)
        × (take f.count f.records ≡ records_of S marks)
    found = as_defined S (sized done) marks g (marks_length (map_of S cells) o) is f.count (omega (arith, f.few)) h f.records L
        (omega (arith, f.few, f.room))

    count_is : f.count ≡ how_many S marks
    count_is = found.0

    records_are : f.records ≡ all
    records_are = rw (in_order done) (in_room_lem f (records_of S marks) L.no_more found.2)

    granted_computed : nodes S ≤ length old → f.count ≤ room → (new : List ℕ) → new ≡ copied S h old
        → (x : Result ℕ Refusal) (k : Found) → (x ≡ Ok f.count) × (k.count ≡ f.count) × (k.records ≡ f.records) → Computed S cells o room old new x k
    unfolding components_answer table_written
    granted_computed fits rows new C x k (a, c, r) =
        let e : check ≡ accepted = all_granted done fits (omega (arith, found.0)) in
        record {
          answer = rw e (a ∙ ap Ok found.0);
          table = rw e (C ∙ ap (λ (l : List ℕ). l ++ drop (nodes S) old) found.1);
          count = rw e (c ∙ found.0);
          records = r ∙ records_are;
          in_row = omega arith;
        }

-- ---- the room, when the components have been counted

pub answered_refused : (S : Sizes) (checked : Answer) (g : List ℕ) (count room : ℕ) (old : List ℕ) (r : Refusal)
    → room_check S checked count (length old) room ≡ Err r → Answered S checked g count room old old (Err r)
answered_refused S checked g count room old r e =
    record {
      answer = rw e;
      copied = λ d. let z : ◌≡◌ {A = ℕ} 0 1 = cc (e, d) in absurd (omega arith);
      kept = λ x q. refl;
    }

-- no room in the row: refused by 3, the table as it was
pub no_row : (S : Sizes) (checked : Answer) (g : List ℕ) (count room : ℕ) (old : List ℕ) → checked ≡ accepted → nodes S ≤ length old → room < count
    → Answered S checked g count room old old (Err NoRoom)
no_row S checked g count room old e h k =
    answered_refused S checked g count room old NoRoom (rw (e, le-leb (nodes S) (length old) h, lt-leb count room k))

pub answered_granted : (S : Sizes) (checked : Answer) (g : List ℕ) (count room : ℕ) (old new : List ℕ)
    → room_check S checked count (length old) room ≡ accepted → new ≡ copied S g old → Answered S checked g count room old new (Ok count)
answered_granted S checked g count room old new e C =
    record {
      answer = rw e;
      copied = λ d. C;
      kept = λ x q. let z : ◌≡◌ {A = ℕ} 0 1 = cc (e, q) in absurd (omega arith);
    }

module _ (S : Sizes) (cells : List ℕ) (o : ℕ) where
  -- an empty grid holds nothing that could be numbered
  pub laid_untouched : (a : Answer) → marks_answer S cells o 4096 ≡ a → (g : List ℕ) → Gridded S cells o a g → Untouched g
  laid_untouched (Ok _) done g is = untouched S (sized S cells o [] 0 done) (marks_of (map_of S cells) o) g (marks_length (map_of S cells) o) is
  laid_untouched (Err x) e g is = λ j. inl (is j)

  pub laid_within : (a : Answer) → marks_answer S cells o 4096 ≡ a → (g : List ℕ) → Gridded S cells o a g
      → Within S.h (answer_value a S.d) g × (answer_value a S.d ≤ 16) × (0 < answer_value a S.d → S.h ≤ 16)
  laid_within (Ok _) done g is =
      let r = sized S cells o [] 0 done in
      (within S r (marks_of (map_of S cells) o) g (marks_length (map_of S cells) o) is, r.d_hi, λ _. r.h_hi)
  laid_within (Err x) e g is = (λ j u. absurd (omega (arith, is j)), omega arith, λ h. absurd (omega arith))

  pub all_computed : (room : ℕ) (old new : List ℕ) (a : Answer) → marks_answer S cells o 4096 ≡ a → (g h : List ℕ) (f : Found)
      → Gridded S cells o a g → Labelled g grid_size f.count h f.records
      → (x : Result ℕ Refusal) (k : Found) → Answered S a h f.count room old new x → k.count ≡ min f.count (stored_of x) → k.records ≡ f.records
      → Computed S cells o room old new x k
  all_computed room old new (Err y) e g h f is L x k T kept same =
      let q : x ≡ Err y = T.answer in
      let u : new ≡ old = T.kept y refl in
      let r = refused_early S cells o old room y e in
      rw u (refused_computed S cells o old room y (refused_here S cells o old room y r) x k (
        q,
        kept ∙ ap (λ (a : Result ℕ Refusal). min f.count (stored_of a)) q ∙ omega arith,
        same ∙ rw r (in_room_lem f [] L.no_more (ap (λ (i : ℕ). take i f.records) (none_found g h f.count f.records is L))),
      ))
  all_computed room old new (Ok _) done g h f is L x k T kept same = go (room_check S accepted f.count (length old) room) refl
    where
      counted : f.count ≡ how_many S (marks_of (map_of S cells) o)
      counted = count_is S cells o old room done g h f is L

      checked : components_check S cells o (length old) room ≡ room_check S accepted f.count (length old) room
      checked = rest S cells o old room done ∙ ap (λ (n : ℕ). check_room (nodes S) (length old) and_then check_room n room) (sym counted)

      go : (b : Answer) → room_check S accepted f.count (length old) room ≡ b → Computed S cells o room old new x k
      go (Err y) e =
          let q : x ≡ Err y = T.answer ∙ ap (λ (a : Answer). answered a f.count) e in
          rw (T.kept y e) (refused_computed S cells o old room y (checked ∙ e) x k (
            q,
            kept ∙ ap (λ (a : Result ℕ Refusal). min f.count (stored_of a)) q ∙ omega arith,
            same ∙ records_are S cells o old room done g h f is L,
          ))
      go (Ok _) e =
          let q : x ≡ Ok f.count = T.answer ∙ ap (λ (a : Answer). answered a f.count) e in
          let (fits, rows) = split (check_room (nodes S) (length old)) (check_room f.count room) e in
          granted_computed S cells o old room done g h f is L (room_granted (nodes S) (length old) fits) (room_granted f.count room rows) new (T.copied e)
          x k (q, kept ∙ ap (λ (a : Result ℕ Refusal). min f.count (stored_of a)) q ∙ omega arith, same)

-- ---- with the records stored, the whole call's table and row

granted_first : (S : Sizes) (cells : List ℕ) (o table_room row_room : ℕ) → components_check S cells o table_room row_room ≡ accepted
    → check_map S cells and_then check_orientation o ≡ accepted
unfolding components_check
granted_first S cells o table_room row_room e =
    let M = check_map S cells and_then check_orientation o in
    let R = check_room (nodes S) table_room in
    (split M R (split (M and_then R) (check_room (how_many S (marks_of (map_of S cells) o)) row_room) e).0).0

pub whole : (S : Sizes) (cells : List ℕ) (o : ℕ) (old new : List ℕ) (row row' stored : List Component) (r : Result ℕ Refusal) (f : Found)
    → Computed S cells o (length row) old new r f → stored ≡ take f.count f.records → row' ≡ stored ++ drop (length stored) row
    → (new ≡ components_table S cells o old row) × (row' ≡ components_row S cells o old row)
unfolding row_written
whole S cells o old new row row' stored r f C is e = (C.table, e ∙ go (components_check S cells o (length old) (length row)) refl)
  where
    found : List Component
    found = records_of S (marks_of (map_of S cells) o)

    as_many : length stored ≡ f.count
    as_many = ap length is ∙ length-take-le f.count f.records (omega (arith, f.few, f.room))

    go : (a : Answer) → components_check S cells o (length old) (length row) ≡ a
        → stored ++ drop (length stored) row ≡ granted a (row_written S cells o row) row
    go (Err x) q = rw (as_many, is, C.count, q)
    go (Ok _) q = rw (as_many, is, C.records, granted_first S cells o (length old) (length row) q, C.count, q)
        (ap (λ (l : List Component). l ++ drop (how_many S (marks_of (map_of S cells) o)) row)
        (take_at found (drop (length found) no_records) (how_many S (marks_of (map_of S cells) o)) (promise S (marks_of (map_of S cells) o)).one_each))
