-- The texts of the orientations, one after another, and a state made fresh for each. Assumes nothing.
use mathlib.Core.Path.{◌≡◌, refl, ap}
use mathlib.Core.List.{List, ◌∷◌, ◌++◌}
use Prim.Native.Nat.{ℕ, zero, suc, ◌+◌, ◌≤◌}
use native.Mathlib.Nat.{le_of_suc-le-suc}
use native.Mathlib.Numerals.{add-one}
use native.Mathlib.Omega.{arith}
use lib.ListN.{length, replicate, take}
use Rattle.mesh.specs.Cells.{Map, map_of, state_length}
use Rattle.mesh.specs.Answers.{check_map, accepted}
use Rattle.mesh.specs.declared.Sizes.{Sizes}
use Rattle.mesh.proofs.Tests.{holds_true}
use Rattle.mesh.proofs.Answers.{sizes_is, map_granted}
use Rattle.talk.specs.Sound.{fresh}
use Rattle.talk.specs.Entries.{fresh_out}
use Rattle.talk.proofs.Calls.{fresh_passed}
use Rattle.text.specs.Text.{Added}
use Rattle.text.proofs.Adding.{added_none}
use Rattle.gossiping.specs.Text.{octant_text, octant_texts}

pub made_fresh : (S : Sizes) (cells : List ℕ) (o : ℕ) (old : List ℕ) → check_map S cells ≡ accepted → o ≤ 7 → length old ≡ state_length S
    → fresh_out S cells o old ≡ fresh (map_of S cells) o
made_fresh S cells o old d h l =
    let sized = (holds_true _).1 (sizes_is S (map_granted S cells d).sized) in
    rw ((fresh_passed S cells o (length old)).1 (((sized, l), d), h))

pub take_replicate : (a n k : ℕ) → n ≤ k → take n (replicate k a) ≡ replicate n a
take_replicate a zero k h = refl
take_replicate a (suc n) zero h = absurd (omega arith)
take_replicate a (suc n) (suc k) h = ap (λ (l : List ℕ). a ∷ l) (take_replicate a n k (le_of_suc-le-suc h))

pub no_text : (m : Map) (old : List ℕ) → Added old (octant_texts m 0) 0 old
unfolding octant_texts
no_text m old = added_none old

pub one_more_text : (m : Map) (o : ℕ) → octant_texts m (o + 1) ≡ octant_texts m o ++ octant_text m o
unfolding octant_texts
one_more_text m o = rw add-one
