-- A shelf is in order. Assumes nothing.
use mathlib.Core.Path.{◌≡◌, refl, sym, ◌∙◌}
use mathlib.Core.Bool.{Bool, true, false}
use borrow.Author.Tests.{eq-eqb, ltb-true}
use lib.ListN.{length, get_or}
use lib.Dec.{ltb}
use Prim.Native.Nat.{ℕ, ◌<◌}
use Rattle.mesh.specs.Cells.{bad_cell, first_bad}
use Rattle.mesh.specs.Answers.{check_map, accepted}
use Rattle.mesh.proofs.Answers.{sizes_is, first_at, map_0}
use Rattle.maps.specs.declared.shelf.Shelf.{Shelf}

pub in_order : (s : Shelf) → check_map s.sizes s.cells.now ≡ accepted
in_order s =
    let cells = s.cells.now in
    let k = first_bad (bad_cell s.sizes) cells in
    sym (map_0 s.sizes cells (sizes_is s.sizes s.sized) (eq-eqb _ _ s.whole) (none k (λ h. s.good k h) (first_at (bad_cell s.sizes) cells)))
  where
    none : (k : ℕ) → (k < length s.cells.now → bad_cell s.sizes k (get_or s.cells.now k 0) ≡ false)
        → (k < length s.cells.now → bad_cell s.sizes k (get_or s.cells.now k 0) ≡ true) → ltb k (length s.cells.now) ≡ false
    none k f t = go (ltb k (length s.cells.now)) refl
      where
        go : (b : Bool) → ltb k (length s.cells.now) ≡ b → b ≡ false
        go true e = let h = ltb-true k _ e in sym (t h) ∙ f h
        go false e = refl
