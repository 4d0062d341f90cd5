-- Demand 2 for the components: what the call answers and writes, as defined, keeps the promise, and nothing else does. Assumes nothing.
use mathlib.Core.List.{List, [], ◌∷◌, ◌++◌}
use mathlib.Core.Path.{◌≡◌, sym, ap, ◌∙◌}
use Prim.Native.Nat.{ℕ, ◌≤◌}
use native.Mathlib.Decide.{ℕ_discrete}
use native.Mathlib.Omega.{arith}
use lib.Dec.{leb}
use lib.ListN.{length, take, drop, take-append-drop}
use lib.Seq.{take_at, drop_at}
use Rattle.mesh.specs.Mesh.{nodes}
use Rattle.mesh.specs.Cells.{map_of}
use Rattle.mesh.specs.Answers.{answer_no, answer_bad, answer_value, numbered_value, ◌and_then◌, check_map, check_orientation, check_room, Answer}
use Rattle.mesh.specs.Order.{◌else◌, map_checks, NamesBad}
use Rattle.mesh.specs.declared.Sizes.{Sizes}
use Rattle.mesh.specs.declared.Refusal.TheVariants.{BadNumber, NoRoom}
use Rattle.mesh.proofs.Answers.{kept}
use Rattle.mesh.proofs.Order.{one_number, ◌decide◌, gives, decides_then, map_decided, orientation_decided, room_decided, bad_after, bad_map, bad_one, done_of, refused_of, numbered_as}
use Rattle.rules.specs.Marks.{marks_of}
use Rattle.rules.proofs.Marks.{marks_length}
use Rattle.touching.specs.Components.{table_of, records_of, how_many}
use Rattle.touching.specs.Entry.{components_check, components_answer, table_written, row_written, components_table, components_row}
use Rattle.touching.specs.Call.{Grouped, components_checks, ComponentsPromise}
use Rattle.touching.specs.declared.Component.{Component}
use Rattle.touching.proofs.Numbers.{table_size}
use Rattle.touching.proofs.Records.{promise, promise_only}

module _ (S : Sizes) (cells : List ℕ) (o : ℕ) where
  abbrev marks : List ℕ
  marks = marks_of (map_of S cells) o

  -- ---- the checks

  module _ (table_room row_room : ℕ) where
    abbrev check : Answer
    check = components_check S cells o table_room row_room

    components_decided : components_checks S cells o table_room row_room decide check
    unfolding components_check
    components_decided =
        let need = how_many S marks in
        let c1 = check_map S cells and_then check_orientation o in
        let c2 = c1 and_then check_room (nodes S) table_room in
        let d1 = map_checks S cells ++ (o ≤ 7) else 5 ∷ [] in
        let d2 = d1 ++ (nodes S ≤ table_room) else 3 ∷ [] in
        decides_then d2 ((need ≤ row_room) else 3 ∷ []) c2 (check_room need row_room)
        (decides_then d1 ((nodes S ≤ table_room) else 3 ∷ []) c1 (check_room (nodes S) table_room)
        (decides_then (map_checks S cells) ((o ≤ 7) else 5 ∷ []) (check_map S cells) (check_orientation o) (map_decided S cells) (orientation_decided o))
        (room_decided (nodes S) table_room))
        (room_decided need row_room)

    components_bad : NamesBad S cells (answer_no check) (answer_bad check)
    unfolding components_check
    components_bad =
        let c1 = check_map S cells and_then check_orientation o in
        bad_after S cells (c1 and_then check_room (nodes S) table_room) (leb (how_many S marks) row_room) NoRoom (λ z. omega arith)
        (bad_after S cells c1 (leb (nodes S) table_room) NoRoom (λ z. omega arith)
        (bad_after S cells (check_map S cells) (leb o 7) BadNumber (λ z. omega arith) (bad_map S cells)))

  -- ---- what is written

  written_grouped : (table : List ℕ) (row : List Component)
      → Grouped S cells o (how_many S marks) table (table_written S cells o table) row (row_written S cells o row)
  unfolding table_written row_written
  written_grouped table row =
      let sized = table_size S marks ∙ marks_length (map_of S cells) o in
      let rest = drop (nodes S) table in
      let more = drop (how_many S marks) row in
      let each = (promise S marks).one_each in
      record {
        front = rw (take_at (table_of S marks) rest (nodes S) sized, take_at (records_of S marks) more (how_many S marks) each) (promise S marks);
        table_kept = drop_at (table_of S marks) rest (nodes S) sized;
        row_kept = drop_at (records_of S marks) more (how_many S marks) each;
      }

  -- the promise
  module _ (table : List ℕ) (row : List Component) where
    pub components_promise :
        let a = components_answer S cells o (length table) (length row) in
        ComponentsPromise S cells o table row (answer_no a) (answer_bad a) (numbered_value a) (components_table S cells o table row) (components_row S cells o table row)
    unfolding components_answer
    components_promise =
        let c = check (length table) (length row) in
        let (number, bad, value) = numbered_as c (how_many S marks) in
        record {
          order = rw number (gives (components_checks S cells o (length table) (length row)) c (components_decided (length table) (length row)));
          names_bad = rw (number, bad) (components_bad (length table) (length row));
          counted = λ g. value ∙ ap (λ (a : Answer). answer_value a (how_many S marks)) (done_of c (sym number ∙ g));
          grouped = λ g. let e = done_of c (sym number ∙ g) in rw (value, e) (written_grouped table row);
          nothing = λ n.
              let (r, e) = refused_of c (λ z. n (number ∙ z)) in
              (value ∙ ap (λ (a : Answer). answer_value a (how_many S marks)) e, kept c r (table_written S cells o table) table e, kept c r (row_written S cells o row) row e);
        }

  -- ---- and nothing else keeps it

  grouped_only : (table : List ℕ) (row : List Component) (n m : ℕ) (t u : List ℕ) (r q : List Component)
      → Grouped S cells o n table t row r → Grouped S cells o m table u row q → (n ≡ m) × (t ≡ u) × (r ≡ q)
  grouped_only table row n m t u r q A B =
      let (e, f, g) = promise_only S marks n (take (nodes S) t) (take n r) A.front in
      let (h, i, j) = promise_only S marks m (take (nodes S) u) (take m q) B.front in
      let same : n ≡ m = e ∙ sym h in (
        same,
        joined (nodes S) t u (f ∙ sym i) (A.table_kept ∙ sym B.table_kept),
        joined n r q (g ∙ sym j ∙ ap (λ (k : ℕ). take k q) (sym same)) (A.row_kept ∙ ap (λ (k : ℕ). drop k row) same ∙ sym B.row_kept ∙ ap (λ (k : ℕ). drop k q) (sym same)),
      )
    where
      joined : {A : Type 0} (k : ℕ) (a b : List A) → take k a ≡ take k b → drop k a ≡ drop k b → a ≡ b
      joined k a b x y = sym (take-append-drop k a) ∙ (λ z. x z ++ y z) ∙ take-append-drop k b

  pub components_only : (table : List ℕ) (row : List Component) (n m b c v w : ℕ) (t u : List ℕ) (r q : List Component)
      → ComponentsPromise S cells o table row n b v t r → ComponentsPromise S cells o table row m c w u q
      → (n ≡ m) × (b ≡ c) × ((v ≡ w) × (t ≡ u) × (r ≡ q))
  components_only table row n m b c v w t u r q A B =
      let same : n ≡ m = one_number (components_checks S cells o (length table) (length row)) n m A.order B.order in (
        same,
        bad_one S cells n b c A.names_bad (rw same B.names_bad),
        elim (ℕ_discrete n 0) [
          | yes e ↦ grouped_only table row v w t u r q (A.grouped e) (B.grouped (sym same ∙ e))
          | no e ↦
              let (x, y, z) = A.nothing e in
              let (x', y', z') = B.nothing (λ h. e (same ∙ h)) in
              (x ∙ sym x', y ∙ sym y', z ∙ sym z')
        ],
      )
