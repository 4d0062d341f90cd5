-- Demand 2 for the marks: what the call answers and writes, as defined, keeps the promise, and nothing else does: the mark bytes of the definitions
-- are the least and only solution of 01's rules. Assumes nothing.
use mathlib.Core.Path.{◌≡◌, refl, sym, ap, ◌∙◌, subst, fun_ext}
use mathlib.Core.Logic.{inl, inr}
use mathlib.Core.Bool.{Bool, true, false}
use mathlib.Core.List.{List}
use Prim.Native.Nat.{ℕ, ◌≤◌}
use native.Mathlib.Decide.{ℕ_discrete}
use borrow.Author.Tests.{ltb-true, ltb-false}
use lib.Dec.{ltb}
use lib.ListN.{length, get_or}
use lib.Seq.{ext_get_or}
use Rattle.mesh.specs.Mesh.{nodes, number, place_of, Inside}
use Rattle.mesh.specs.Cells.{Map, map_of, faulty}
use Rattle.rules.specs.Marks.{Kind, holds, byte_of, has}
use Rattle.rules.proofs.Marks.{rules_hold, rules_only, rules_least, rules_same}
use Rattle.mesh.specs.Answers.{answer_no, answer_bad}
use Rattle.mesh.proofs.Answers.{kept}
use Rattle.mesh.proofs.Order.{one_number, gives, bad_one, done_of, refused_of}
use Rattle.mesh.proofs.Tests.{tried}
use Rattle.mesh.proofs.Numbers.{number_of, place_in}
use Rattle.rules.proofs.Bytes.{mark_works, mark_faulty, mark_has}
use Rattle.mesh.specs.declared.Sizes.{Sizes}
use Rattle.mesh.specs.declared.Place.{Place}
use Rattle.rules.specs.Entry.{marks_answer, marks_written, marks_out}
use Rattle.rules.specs.Promise.{marks_in, Marked, marks_checks, MarksPromise}
use Rattle.rules.proofs.Entry.{marks_granted, marks_decided, marks_bad, written_at, written_kept, written_size}

module _ (S : Sizes) (cells : List ℕ) (o : ℕ) (old : List ℕ) (orientation : o ≤ 7) (fits : nodes S ≤ length old) where
  abbrev m : Map
  m = map_of S cells

  abbrev new : List ℕ
  new = marks_written S cells o old

  -- the marks written are the marks
  marks_in_lem : (k : Kind) (p : Place) → Inside S p → holds m o p k ≡ marks_in S new k p
  marks_in_lem k p i = sym (ap (λ (b : ℕ). has b k) (written_at S cells o old p i) ∙ mark_has m o p k i)

  written_marked : Marked S cells o old new
  written_marked = record {
    one = λ p i. rw (written_at S cells o old p i) (mark_faulty m o p);
    byte = λ p i w. written_at S cells o old p i ∙ mark_works m o p w ∙ ap byte_of (fun_ext λ k. marks_in_lem k p i);
    rules = rules_same m o (λ k p. holds m o p k) (marks_in S new) marks_in_lem (rules_hold m o orientation);
    only = λ marks r k p i. rules_only m o orientation marks r k p i ∙ marks_in_lem k p i;
    least = λ marks c k p i t. rules_least m o orientation marks c k p i (rw (marks_in_lem k p i) t);
    kept = written_kept S cells o old;
    size = written_size S cells o old fits;
  }

-- the promise
pub marks_promise : (S : Sizes) (cells : List ℕ) (o : ℕ) (old : List ℕ)
    → MarksPromise S cells o old (answer_no (marks_answer S cells o (length old))) (answer_bad (marks_answer S cells o (length old))) (marks_out S cells o old)
marks_promise S cells o old =
    let a = marks_answer S cells o (length old) in
    record {
      order = gives (marks_checks S cells o (length old)) a (marks_decided S cells o (length old));
      names_bad = marks_bad S cells o (length old);
      marked = λ g.
          let e = done_of a g in
          let m = marks_granted S cells o (length old) e in
          rw e (written_marked S cells o old m.orientation m.fits);
      nothing = λ n. let (r, e) = refused_of a n in kept a r (marks_written S cells o old) old e;
    }

-- ---- and nothing else keeps it

module _ (S : Sizes) (cells : List ℕ) (o : ℕ) (old new other : List ℕ) (M : Marked S cells o old new) (N : Marked S cells o old other) where
  byte_one : (p : Place) → Inside S p → get_or new (number S p) 0 ≡ get_or other (number S p) 0
  byte_one p i = elim (tried (faulty (map_of S cells) p)) [
    | inl f ↦ (M.one p i).1 f ∙ sym ((N.one p i).1 f)
    | inr w ↦ M.byte p i w ∙ ap byte_of (fun_ext λ k. N.only (marks_in S new) M.rules k p i) ∙ sym (N.byte p i w)
  ]

  bytes_one : new ≡ other
  bytes_one = ext_get_or 0 new other (M.size ∙ sym N.size) (λ k _. at k (ltb k (nodes S)) refl)
    where
      at : (k : ℕ) (t : Bool) → ltb k (nodes S) ≡ t → get_or new k 0 ≡ get_or other k 0
      at k true e =
          let h = ltb-true k (nodes S) e in
          subst (λ (j : ℕ). get_or new j 0 ≡ get_or other j 0) (number_of S k) (byte_one (place_of S k) (place_in S k h))
      at k false e = let h = ltb-false k (nodes S) e in M.kept k h ∙ sym (N.kept k h)

pub marks_only : (S : Sizes) (cells : List ℕ) (o : ℕ) (old : List ℕ) (n m b c : ℕ) (new other : List ℕ)
    → MarksPromise S cells o old n b new → MarksPromise S cells o old m c other → (n ≡ m) × (b ≡ c) × (new ≡ other)
marks_only S cells o old n m b c new other A B =
    let same : n ≡ m = one_number (marks_checks S cells o (length old)) n m A.order B.order in (
      same,
      bad_one S cells n b c A.names_bad (rw same B.names_bad),
      elim (ℕ_discrete n 0) [
        | yes e ↦ bytes_one S cells o old new other (A.marked e) (B.marked (sym same ∙ e))
        | no e ↦ A.nothing e ∙ sym (B.nothing (λ z. e (same ∙ z)))
      ],
    )
