-- "The file is 12 to 65,536 bytes", of whoever reads: outside it is refused by 11, and at either end it is not. Assumes nothing.
use mathlib.Core.Path.{◌≡◌, refl, ap, ◌∙◌}
use mathlib.Core.Logic.{inl, inr}
use mathlib.Core.List.{List, ◌++◌}
use Prim.Native.Nat.{ℕ, ◌+◌, ◌<◌, ◌≤◌}
use native.Mathlib.Nat.{zero-add}
use native.Mathlib.Omega.{arith}
use lib.ListN.{length, get_or}
use lib.Seq.{get_or-append-add}
use Rattle.mesh.specs.Mesh.{InRange, nodes}
use Rattle.mesh.specs.Order.{InOrder}
use Rattle.mesh.specs.declared.Sizes.{Sizes}
use Rattle.format.specs.Format.{file_mark, sizes_and_distance, trailer, file_of}
use Rattle.format.specs.Promise.{Framed, Reads}

module _ {file old : List ℕ} {r b w h d : ℕ} {new : List ℕ} (p : Reads file old r b w h d new) where
  pub too_short : length file < 12 → r ≡ 11
  too_short l = elim p.order [ inl q ↦ q.1 | inr q ↦ absurd (omega (arith, q.0.least)) ]

  pub too_long : 65536 < length file → r ≡ 11
  too_long l = elim p.order [ inl q ↦ q.1 | inr q ↦ absurd (omega (arith, q.0.fits)) ]

-- the longest: notes of any kind, so many that the file of a map has 65,536 bytes
pub longest : {S : Sizes} (notes cells : List ℕ) → InOrder S cells → length (notes ++ file_of S cells) ≡ 65536
    → {old : List ℕ} {r b w h d : ℕ} {new : List ℕ} → Reads (notes ++ file_of S cells) old r b w h d new → nodes S ≤ length old → r ≡ 0
longest {S} notes cells m l p h = p.read (record { notes = notes; parts = refl; fits = omega arith; in_order = m }) h

-- the shortest: a trailer alone, which is looked at, so that wrong sizes are found
trailer_framed : (S : Sizes) → Framed (trailer S)
unfolding trailer
trailer_framed S =
    record {
      least = omega arith;
      fits = omega arith;
      mark = λ i h. ap (λ (n : ℕ). get_or (trailer S) n 0) (zero-add (8 + i)) ∙ get_or-append-add (sizes_and_distance S) file_mark i 0;
      zero_byte = refl;
    }

pub shortest : (S : Sizes) → (InRange S → ⊥) → {old : List ℕ} {r b w h d : ℕ} {new : List ℕ} → Reads (trailer S) old r b w h d new → r ≡ 1
unfolding trailer
shortest S n p = elim p.order [
  | inl q ↦ absurd (q.0 (trailer_framed S))
  | inr q ↦ elim q.1 [ inl z ↦ z.1 | inr z ↦ absurd (n z.0) ]
]
