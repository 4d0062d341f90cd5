-- `components::entry::compute` meets its contract: the flood on what is laid, and then the answer. Assumes nothing.
use mathlib.Core.Path.{sym, ◌∙◌}
use Rattle.grids.proofs.Layouts.{blank_at}
use Rattle.components.proofs.Outcomes.{sized, laid_untouched, laid_within, all_computed}
use Rattle.components.proofs.entry.compute.Goals as goal

pub grid_of-a-requires : goal.grid_of-a-requires
grid_of-a-requires c = blank_at 5220 _ c.blank-grid.ensures

pub label-requires : goal.label-requires
label-requires c =
    let a = c.args in
    let done = sym c.grid_of-a.ensures.0 in
    let g = c.grid_of-a.new.grid.cells in
    let is = c.grid_of-a.ensures.1 in
    let (w, d, h) = laid_within a.s a.cells.now a.orientation c.grid_of-a.result done g is in (
      laid_untouched a.s a.cells.now a.orientation c.grid_of-a.result done g is,
      rw c.layers.ensures w,
      rw c.layers.ensures d,
      rw c.layers.ensures h,
    )

pub settle-answer-requires : goal.settle-answer-requires
settle-answer-requires c =
    let a = c.args in
    λ done. sized a.s a.cells.now a.orientation a.table.now a.room (sym c.grid_of-a.ensures.0 ∙ done)

pub returns : goal.returns
returns c =
    let a = c.args in
    let (count, records) = c.truncate.ensures in
    all_computed a.s a.cells.now a.orientation a.room a.table.now c.settle-answer.new.table c.grid_of-a.result (sym c.grid_of-a.ensures.0)
    c.grid_of-a.new.grid.cells c.label.new.grid.cells c.label.new.found c.grid_of-a.ensures.1 c.label.ensures c.settle-answer.result c.truncate.new.self
    c.settle-answer.ensures (rw c.stored.ensures at count) records
