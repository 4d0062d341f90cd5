-- What the writer grants is a map file, and the bytes of two trailers. Assumes nothing.
use mathlib.Core.Path.{◌≡◌, refl, ap, ◌∙◌}
use mathlib.Core.List.{List, [], ◌∷◌}
use Prim.Native.Nat.{ℕ, ◌+◌}
use native.Mathlib.Omega.{arith}
use lib.ListN.{length, length-append}
use Rattle.mesh.specs.Mesh.{sizes, nodes}
use Rattle.mesh.specs.Order.{InOrder}
use Rattle.mesh.specs.declared.Sizes.{Sizes}
use Rattle.mesh.proofs.Numbers.{nodes_le}
use Rattle.format.specs.Format.{distance, trailer, file_of, MapFile}

module _ (S : Sizes) (cells : List ℕ) where
  -- of N + 12 bytes
  pub file_size : length cells ≡ nodes S → length (file_of S cells) ≡ distance S
  unfolding trailer
  file_size whole = length-append cells (trailer S) ∙ ap (λ (n : ℕ). n + 12) whole

  pub written_file : InOrder S cells → MapFile S cells (file_of S cells)
  written_file m =
      record {
        notes = [];
        parts = refl;
        fits = omega (arith, file_size m.whole, nodes_le S m.sized);
        in_order = m;
      }

-- the bytes of two trailers: of map P, and of the largest mesh
pub trailers : (trailer (sizes 5 5 1) ≡ 5 ∷ 5 ∷ 1 ∷ 0 ∷ 37 ∷ 0 ∷ 0 ∷ 0 ∷ 70 ∷ 76 ∷ 68 ∷ 49 ∷ [])
    × (trailer (sizes 16 16 16) ≡ 16 ∷ 16 ∷ 16 ∷ 0 ∷ 12 ∷ 16 ∷ 0 ∷ 0 ∷ 70 ∷ 76 ∷ 68 ∷ 49 ∷ [])
unfolding trailer
trailers = (refl, refl)
