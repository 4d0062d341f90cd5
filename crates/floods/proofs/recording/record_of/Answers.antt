-- `floods::recording::record_of` meets its contract. The loop's invariant: the record's box is that of the places so far. Assumes nothing.
use mathlib.Core.Path.{◌≡◌, sym, ap, ◌∙◌, subst}
use mathlib.Core.List.{List}
use Prim.Native.Nat.{ℕ, ◌+◌, ◌-◌, ◌<◌}
use native.Mathlib.Omega.{arith}
use lib.ListN.{length, get_or, take, drop}
use Rattle.std.proofs.lemmas.List.{places}
use Rattle.touching.specs.declared.Component.{Component}
use Rattle.mesh.specs.Mesh.{place}
use Rattle.grids.specs.Grid.{place_at}
use Rattle.floods.proofs.Boxes.{Boxed, boxed_more}
use Rattle.floods.proofs.recording.record_of.Goals as goal

-- the places after the first
rest : (q : List ℕ) (i : ℕ) → i < length q - 1 → get_or (take (length q - 1) (drop 1 q)) i 0 ≡ get_or q (i + 1) 0
rest q i h = grind (arith, places)

pub loop-at-preserved : goal.loop-at-preserved
loop-at-preserved c =
    let l = c.loop-at in
    let p = c.at-in-loop-at in
    let q = c.args.places.now in (
      ap (λ (r : Component). r.count) c.widened-c.ensures ∙ l.invariant.0,
      subst (Boxed q (l.at-index + 1 + 1)) (sym c.widened-c.ensures)
          (boxed_more q (place p.result.x p.result.y p.result.z) (l.at-index + 1) l.c (p.ensures ∙ ap place_at (rest q l.at-index (omega arith)))
          l.invariant.1),
    )

pub returns : goal.returns
returns c =
    let l = c.loop-at in
    (l.invariant.0, subst (λ (n : ℕ). Boxed c.args.places.now n l.c) (omega arith) l.invariant.1)
