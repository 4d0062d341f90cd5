-- `marks::entry::mark_all` meets its contract: a sweep for each mark over bytes that are 0, then the faulty nodes. Assumes nothing.
use mathlib.Core.List.{◌++◌}
use mathlib.Core.Path.{subst}
use native.Mathlib.Omega.{arith}
use lib.ListN.{drop}
use Rattle.mesh.specs.Mesh.{nodes}
use Rattle.mesh.specs.Fill.{Filled}
use Rattle.mesh.proofs.Fill.{cleared}
use Rattle.marks.specs.Sweep.{Finished}
use Rattle.marks.proofs.Written.{written}
use Rattle.marks.proofs.entry.mark_all.Goals as goal
use Rattle.marks.proofs.entry.mark_all.Goals.{After-fill}

blank : (c : After-fill) → let a = c.args in Filled (λ i. i) (λ i. 0) a.out.now (c.fill.new.self ++ drop c.nodes.result a.out.now) (nodes a.shelf.now.sizes)
blank c =
    let a = c.args in
    subst (Filled (λ i. i) (λ i. 0) a.out.now (c.fill.new.self ++ drop c.nodes.result a.out.now)) c.nodes.ensures.0
    (cleared a.out.now c.fill.new.self c.nodes.result (omega (arith, c.requires.0)) (c.fill.ensures.after (λ y e. e)))

pub sweep-requires : goal.sweep-requires
sweep-requires c =
    let F = blank (goal.at.sweep-requires c).After-fill in
    (omega (arith, c.requires.0, F.size), λ k h. omega (arith, F.at k h))

pub sweep-requires-2 : goal.sweep-requires-2
sweep-requires-2 c =
    let F = blank (goal.at.sweep-requires-2 c).After-fill in
    let A = c.sweep.ensures in
    (omega (arith, c.requires.0, F.size, A.size), λ k h. omega (arith, F.at k h, A.at_most k))

pub returns : goal.returns
returns c =
    let a = c.args in
    let s = a.shelf.now in
    let v = c.sweep-2.new.out in
    written s.sizes s.cells.now a.o a.out.now _ c.sweep.new.out v c.finish.new.out
    (blank (goal.at.returns c).After-fill) c.sweep.ensures c.sweep-2.ensures
    (subst (Finished s.cells.now v c.finish.new.out) s.whole c.finish.ensures) c.requires.0
