-- `rows::pack::pack_row` meets its contract: the sixteen that are read are in the map. Assumes nothing.
use mathlib.Core.Path.{ap, ◌∙◌}
use mathlib.Core.Bool.{true, false}
use native.Mathlib.Omega.{arith}
use lib.ListN.{get_or}
use Rattle.rows.specs.Row.{bit_at, says}
use Rattle.rows.proofs.Packs.{some_of}
use Rattle.rows.proofs.pack.pack_row.Goals.{then-down, else-down}
use Rattle.rows.proofs.pack.pack_row.Goals as goal

pub returns : goal.returns
returns c =
    let a = c.args in
    let cells = a.cells.now in
    let i = c.abs_diff.ensures in
    let e = c.if-down.branch in
    elim c.if-down.branch [
      | then-down w ↦
          let d = w.if-down.true in
          let o = c.requires.1.low d in
          let p = w.max-first.ensures in
          let q = w.first-is in
          rw d (c.some.ensures
          ∙ some_of (says cells a.j true c.if-down.first) (says cells a.j true a.from) _ _ a.w (rw d at c.sixteen-2.ensures)
          (λ k l. ap (λ i. bit_at (get_or cells i 0) a.j) (omega arith)) (omega arith))
      | else-down w ↦
          let d = w.if-down.false in
          let o = c.requires.1.high d in
          let p = w.min-first.ensures in
          let q = w.first-is in
          rw d (c.some.ensures
          ∙ some_of (says cells a.j false c.if-down.first) (says cells a.j false a.from) _ _ a.w (rw d at c.sixteen-2.ensures)
          (λ k l. ap (λ i. bit_at (get_or cells i 0) a.j) (omega arith)) (omega arith))
    ]
