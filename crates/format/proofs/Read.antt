-- What a reader of a file knows where sizes were answered: the cells are in order, and stand at the front of the bytes lent. Assumes nothing.
use mathlib.Core.Path.{◌≡◌, sym, ap, ◌∙◌, subst}
use mathlib.Core.List.{List}
use Prim.Native.Nat.{ℕ}
use lib.ListN.{length, take}
use Rattle.mesh.specs.Mesh.{InRange, nodes}
use Rattle.mesh.specs.Answers.{check_map, answer_no, accepted}
use Rattle.mesh.specs.declared.Sizes.{Sizes}
use Rattle.mesh.proofs.Answers.{map_granted}
use Rattle.format.specs.Format.{sizes_in, cells_in}
use Rattle.format.specs.Entry.{map_read_sizes, read_check, read_answer, read_out}
use Rattle.format.proofs.Refusals.{read_ordered, read_front}
use Rattle.format.proofs.Reading.{read_as}
use Rattle.std.specs.Prelude.{Ok, Result}
use Rattle.mesh.specs.declared.Refusal.{Refusal}

module _ (file : List ℕ) (room : ℕ) (S : Sizes) (is : read_answer file room ≡ Ok S) where
  granted : (read_check file room ≡ accepted) × (sizes_in file ≡ S)
  unfolding read_answer
  granted = (read_as (read_check file room) (sizes_in file) S).0 (ap answer_no is, ap map_read_sizes is)

  in_order : check_map S (cells_in file) ≡ accepted
  in_order = subst (λ (Z : Sizes). check_map Z (cells_in file) ≡ accepted) granted.1 (read_ordered file room granted.0)

  in_range : InRange S
  in_range = (map_granted S (cells_in file) in_order).sized

  in_front : (old : List ℕ) → length old ≡ room → take (nodes S) (read_out file old) ≡ cells_in file
  in_front old e =
      let done : read_check file (length old) ≡ accepted = ap (read_check file) e ∙ granted.0 in
      subst (λ (Z : Sizes). take (nodes Z) (read_out file old) ≡ cells_in file) granted.1 (read_front file old done)

-- S was answered to a reader with so much room, and `new` is what it has now: the N bytes in front are the cells.
pub record HasRead (file : List ℕ) (room : ℕ) (S : Sizes) (new : List ℕ) : Type 0 where
  pub answer : read_answer file room ≡ Ok S
  pub sized : InRange S
  pub cells : {n : ℕ} → n ≡ nodes S → take n new ≡ cells_in file
  pub whole : {n : ℕ} → n ≡ nodes S → n ≡ length (take n new)
  pub ordered : {n : ℕ} → n ≡ nodes S → check_map S (take n new) ≡ accepted

-- from the contract of `read_map`
pub has_read : {file : List ℕ} (old : List ℕ) {new : List ℕ} {room : ℕ} {a : Result Sizes Refusal} {S : Sizes} → room ≡ length old
    → (a ≡ read_answer file (length old)) × (new ≡ read_out file old) → a ≡ Ok S → HasRead file room S new
has_read {file} old {new} {room} {a} {S} e (given, left) is =
    let answer = ap (read_answer file) e ∙ sym given ∙ is in
    let ordered = in_order file room S answer in
    let cells : (n : ℕ) → n ≡ nodes S → take n new ≡ cells_in file =
    λ n q. ap (λ (n : ℕ). take n new) q ∙ ap (take (nodes S)) left ∙ in_front file room S answer old (sym e) in
    record {
      answer = answer;
      sized = in_range file room S answer;
      cells = λ q. cells _ q;
      whole = λ q. q ∙ sym (ap length (cells _ q) ∙ (map_granted S (cells_in file) ordered).whole);
      ordered = λ q. ap (check_map S) (cells _ q) ∙ ordered;
    }
