-- What a sweep for each mark leaves is what the call is to write: the marks, then the bytes that were there. Assumes nothing.
use mathlib.Core.Path.{◌≡◌, refl, sym, ◌∙◌, subst}
use mathlib.Core.Bool.{Bool, true, false, cond}
use mathlib.Core.List.{List}
use Prim.Native.Nat.{ℕ, ◌+◌, ◌*◌, ◌≤◌}
use native.Mathlib.Omega.{arith}
use lib.ListN.{length, get_or}
use Rattle.mesh.specs.Tools.{bit}
use Rattle.mesh.specs.Mesh.{nodes, number, place_of, Inside}
use Rattle.mesh.specs.Steps.{reversed}
use Rattle.mesh.specs.Cells.{Map, map_of, faulty}
use Rattle.mesh.specs.Fill.{Filled}
use Rattle.mesh.proofs.Fill.{front}
use Rattle.mesh.proofs.Numbers.{number_of, number_lt, place_in}
use Rattle.rules.specs.Marks.{stuck, byte_of, mark_at, marks_of}
use Rattle.rules.specs.Entry.{marks_written}
use Rattle.rules.proofs.Marks.{marks_length, marks_at}
use Rattle.mesh.specs.declared.Sizes.{Sizes}
use Rattle.mesh.specs.declared.Place.{Place}
use Rattle.marks.specs.Sweep.{Swept, Finished}

module _ (S : Sizes) (cells : List ℕ) (o : ℕ) (old blank once twice new : List ℕ) (none : Filled (λ i. i) (λ i. 0) old blank (nodes S)) where
  abbrev m : Map
  m = map_of S cells

  module _ (A : Swept m o 2 blank once) (B : Swept m (reversed o) 4 once twice) (F : Finished cells twice new (nodes S)) where
    -- the byte of a node
    node_at : (p : Place) → Inside S p → get_or new (number S p) 0 ≡ mark_at m o p
    unfolding mark_at byte_of
    node_at p i = F.at (number S p) (number_lt S p i) ∙ split (faulty m p) refl
      where
        split : (t : Bool) → faulty m p ≡ t → cond t 1 (get_or twice (number S p) 0) ≡ cond t 1 (2 * bit (stuck m o p) + 4 * bit (stuck m (reversed o) p))
        split true e = refl
        split false e = omega (arith, A.at p i e, B.at p i e, none.at (number S p) (number_lt S p i))

    pub written : nodes S ≤ length old → new ≡ marks_written S cells o old
    unfolding marks_written
    written room = front (marks_of m o) old new (nodes S) (marks_length m o) room (F.size ∙ B.size ∙ A.size ∙ none.size)
        (λ k l.
        let p : Place = place_of S k in
        subst (λ (k : ℕ). get_or new k 0 ≡ get_or (marks_of m o) k 0) (number_of S k) (node_at p (place_in S k l) ∙ sym (marks_at m o p (place_in S k l))))
        (λ k l. F.kept k (λ i h e. omega arith) ∙ B.kept k l ∙ A.kept k l ∙ none.kept k (λ i h e. omega arith))
