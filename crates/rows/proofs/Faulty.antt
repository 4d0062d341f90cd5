-- Bit 0 of a cell says that its node is faulty. Assumes nothing.
use mathlib.Core.Path.{◌≡◌, refl, ap, ◌∙◌}
use mathlib.Core.Bool.{false}
use mathlib.Core.List.{List, ◌++◌}
use mathlib.Core.Logic.{inl, inr}
use Prim.Native.Nat.{ℕ, zero, suc, ◌+◌, ◌≤◌}
use native.Mathlib.Omega.{arith}
use borrow.Author.Tests.{ltb-false}
use lib.ListN.{length, get_or, take, drop}
use lib.Seq.{length-take-le}
use Rattle.std.proofs.lemmas.Bool.{cases_lt}
use Rattle.mesh.specs.Mesh.{place}
use Rattle.mesh.specs.Cells.{faulty, faulty_cell, bad_cell}
use Rattle.mesh.specs.Fill.{Filled}
use Rattle.mesh.proofs.Fill.{front_at, front_kept, front_size}
use Rattle.mesh.specs.declared.Sizes.{Sizes}
use Rattle.maps.specs.Shelf.{map_on}
use Rattle.maps.specs.declared.shelf.Shelf.{Shelf}
use Rattle.rows.specs.Row.{bit_at, packed, says}
use Rattle.rows.specs.Box.{reach, spot, Held, Ready}
use Rattle.rows.proofs.Packs.{packed_same}
use Rattle.rows.proofs.Box.{gone_row, fits}
use Rattle.rows.specs.declared.Between.{Between}

faulty_bit : (S : Sizes) (k c : ℕ) → bad_cell S k c ≡ false → bit_at c 0 ≡ faulty_cell c
unfolding bit_at bad_cell faulty_cell
faulty_bit S k zero e = refl
faulty_bit S k (suc zero) e = refl
faulty_bit S k (suc (suc c)) e = absurd (omega (arith, ltb-false 1 (suc (suc c)) e))

-- a box that stays on a shelf
pub on_shelf : (s : Shelf) (g : Between) → Held s.sizes g → Ready s.sizes s.cells.now g
on_shelf s g h = record { sized = s.sized; whole = s.whole; held = h }

-- the first bits of a row's cells
pub row_faulty : (s : Shelf) (g : Between) → Held s.sizes g → (b c : ℕ) → b ≤ g.y.steps → c ≤ g.z.steps
    → packed (says s.cells.now 0 g.x.down (spot s.sizes g 0 b c)) (g.x.steps + 1) ≡ packed (λ a. faulty (map_on s) (reach g (place a b c))) (g.x.steps + 1)
row_faulty s g held b c hb hc = packed_same _ _ (g.x.steps + 1) λ a l.
    let h : a ≤ g.x.steps = omega arith in
    let k = spot s.sizes g a b c in
    ap (λ i. bit_at (get_or s.cells.now i 0) 0) (gone_row s.sizes g held a b c h)
    ∙ faulty_bit s.sizes k (get_or s.cells.now k 0)
    (s.good k (fits (map_on s) g (on_shelf s g held) b c hb hc (place a b c) (record { x_le = h; y_le = hb; z_le = hc })))

-- what is written over the front of a slice
pub front_filled : (v : ℕ → ℕ) (old new : List ℕ) (n : ℕ) → n ≤ length old → Filled (λ i. i) v (take n old) new n → Filled (λ i. i) v old (new ++ drop n old) n
front_filled v old new n room F =
    let e : length new ≡ n = F.size ∙ length-take-le n old room in record {
      at = λ i h. front_at new old n e i h ∙ F.at i h;
      kept = λ k off. front_kept new old n e k (elim (cases_lt k n) [ inl l ↦ absurd (off k l refl) | inr l ↦ l ]);
      size = front_size new old n e room;
    }
