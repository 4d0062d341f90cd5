-- `dukthari::dk_components` meets its contract: the records that were found are stored, and the answer, which fits, is passed on. Assumes nothing.
use mathlib.Core.Path.{ap, ◌∙◌, subst}
use Prim.Native.Nat.{ℕ, ◌≤◌}
use Rattle.mesh.specs.Mesh.{sizes}
use Rattle.answers.specs.Fields.{counted_fields}
use Rattle.components.proofs.Outcomes.{whole}
use Rattle.dukthari.proofs.Small.{components_fits}
use Rattle.dukthari.proofs.dk_components.Goals as goal

pub counted_fields-requires : goal.counted_fields-requires
counted_fields-requires c =
    let C = c.compute-a.ensures in
    rw C.answer (components_fits _ _ _ _ _ (subst (λ (n : ℕ). n ≤ 1024) C.count c.compute-a.new.found.few))

pub returns : goal.returns
returns c =
    let a = c.args in
    let v = c.compute-a in
    let C = rw c.sizes_of.ensures at v.ensures in
    let w = whole (sizes a.w a.h a.d) a.cells.now a.orientation a.table.now v.new.table a.row.now c.store.new.row c.as_slice.result.now v.result
    v.new.found C c.as_slice.ensures c.store.ensures in
    (c.counted_fields.ensures ∙ ap counted_fields C.answer, w.0, w.1)
