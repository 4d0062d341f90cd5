-- `grids::lay_row` meets its contract. The loop's invariant: the first `x` marks are laid. Assumes nothing.
use mathlib.Core.Path.{◌≡◌, refl, ap, ◌∙◌, subst}
use mathlib.Core.List.{List}
use Prim.Native.Nat.{ℕ, ◌+◌, ◌-◌, ◌<◌}
use native.Mathlib.Omega.{arith}
use lib.ListN.{get_or, take, drop}
use Rattle.std.proofs.lemmas.List.{places}
use Rattle.mesh.specs.Fill.{Filled}
use Rattle.mesh.proofs.Fill.{fill_more}
use Rattle.grids.specs.Grid.{shade}
use Rattle.grids.proofs.lay_row.Goals as goal

-- mark x of the row
marked : (marks : List ℕ) (k w x : ℕ) → x < w → get_or (take (k + w - k) (drop k marks)) x 0 ≡ get_or marks (k + x) 0
marked marks k w x h = grind (arith, places)

pub loop-x-preserved : goal.loop-x-preserved
loop-x-preserved c =
    let l = c.loop-x in
    let a = c.args in
    fill_more (λ i. a.at + i) (λ i. shade (get_or a.marks.now (a.k + i) 0)) a.grid.now l.grid l.x (a.at + l.x) c.shade.result l.invariant
    (omega (arith, l.invariant.size)) (λ i h e. omega arith) refl
    (c.shade.ensures ∙ ap shade (marked a.marks.now a.k a.w l.x (omega arith)))

pub returns : goal.returns
returns c =
    let l = c.loop-x in
    let a = c.args in
    subst (Filled (λ i. a.at + i) (λ i. shade (get_or a.marks.now (a.k + i) 0)) a.grid.now l.grid) (omega arith) l.invariant
