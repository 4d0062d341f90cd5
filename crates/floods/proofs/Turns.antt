-- The turns of the search for the next component: what is known at place k when n components have been found. Assumes nothing.
use mathlib.Core.Path.{◌≡◌, subst}
use mathlib.Core.List.{List}
use Prim.Native.Nat.{ℕ, ◌+◌, ◌*◌, ◌≤◌, ◌<◌}
use native.Mathlib.Omega.{arith}
use native.Mathlib.Numerals.{add-one}
use lib.ListN.{length, get_or, set}
use Rattle.grids.specs.Grid.{grid_size, unseen, Spot}
use Rattle.floods.specs.Flood.{Flooded}
use Rattle.floods.specs.Label.{Untouched, Within, Labelled}
use Rattle.touching.specs.declared.Component.{Component}
use Rattle.floods.proofs.Boxes.{Boxed}
use Rattle.floods.proofs.Labels.{label_on, label_more, was_unseen, unseen_spot}
use Rattle.floods.proofs.Few.{one_more}

-- g was the grid before; grid h and the row of records now
pub record Turn (g : List ℕ) (k n : ℕ) (h : List ℕ) (row : List Component) : Type 0 where
  pub untouched : Untouched g
  pub few : n ≤ 1024
  pub labelled : Labelled g k n h row

module _ {g : List ℕ} {k n : ℕ} {h : List ℕ} {row : List Component} (T : Turn g k n h row) where
  pub turn_on : (m : ℕ) → k ≤ m → ((j : ℕ) → k ≤ j → j < m → get_or h j 0 ≡ unseen → ⊥) → Turn g m n h row
  turn_on m l none = record { untouched = T.untouched; few = T.few; labelled = label_on g k n h row T.labelled m l none }

  pub turn_past : (get_or h k 0 ≡ unseen → ⊥) → Turn g (k + 1) n h row
  turn_past none = turn_on (k + 1) (omega arith) λ j lo hi u. let e : j ≡ k = omega arith in none (rw e at u)

  seen_first : (j : ℕ) → get_or h j 0 ≡ unseen → get_or g j 0 ≡ unseen
  seen_first = was_unseen g k n h row T.labelled (omega (arith, T.few)) T.untouched

  -- past the last of w rows of a layer, and past the last layer
  pub turn_layer : (w d z : ℕ) → Within w d g → w ≤ 16 → k ≡ 307 + 289 * z + 17 * w → Turn g (307 + 289 * (z + 1)) n h row
  turn_layer w d z within lw e =
      turn_on (307 + 289 * (z + 1)) (omega arith) λ j lo hi u. let i = (within j (seen_first j u)).0 in omega arith

  pub turn_end : (w d : ℕ) → Within w d g → d ≤ 16 → k ≡ 307 + 289 * d → Labelled g grid_size n h row
  turn_end w d within ld e =
      (turn_on grid_size (omega arith) (λ j lo hi u. let i = (within j (seen_first j u)).1 in omega arith)).labelled

  -- an unseen place: there is room for its component's record
  module _ (u : get_or h k 0 ≡ unseen) where
    pub few_yet : n < 1024
    few_yet = one_more g k n h row T.labelled T.untouched u (omega (arith, T.few))

    spots_yet : (j : ℕ) → get_or h j 0 ≡ unseen → Spot j
    spots_yet = unseen_spot g k n h row T.labelled (omega (arith, T.few)) T.untouched

    module _ {h' q' : List ℕ} {m : ℕ} (F : Flooded h k (n + 1) h' q' m) where
      pub some : 1 ≤ m
      some = omega (arith, (F.part.all k F.start).1)

      pub spots : (t : ℕ) → t < m → Spot (get_or q' t 0)
      spots t l = spots_yet (get_or q' t 0) (F.part.each t l).0

      pub turn_more : length h' ≡ grid_size → (c : Component) → c.count ≡ m → Boxed q' m c → length row ≡ 1024
          → Turn g (k + 1) (n + 1) h' (set row n c)
      turn_more lh c e b room =
          record {
            untouched = T.untouched;
            few = omega (arith, few_yet);
            labelled = rw (add-one n)
                (label_more g k n h row T.labelled (omega (arith, T.few)) T.untouched h' q' m lh
                (subst (λ (i : ℕ). Flooded h k i h' q' m) (add-one n) F) c e b (omega (arith, few_yet, room)));
          }
