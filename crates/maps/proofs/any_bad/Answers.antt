-- `maps::any_bad` meets its contract: one cell more is looked at each turn. Assumes nothing.
use mathlib.Core.Path.{◌≡◌, refl, ap, ◌∙◌}
use Prim.Native.Nat.{ℕ}
use native.Mathlib.Omega.{arith}
use lib.ListN.{length, get_or}
use Rattle.std.proofs.Math.Bool.{or_comm}
use Rattle.mesh.specs.Tools.{any}
use Rattle.mesh.specs.Cells.{bad_cell}
use Rattle.mesh.proofs.Tests.{any_more}
use Rattle.mesh.proofs.Answers.{any_first}
use Rattle.maps.proofs.any_bad.Goals as goal

pub loop-k-init : goal.loop-k-init
unfolding any
loop-k-init c = refl

pub loop-k-preserved : goal.loop-k-preserved
loop-k-preserved c =
    let l = c.loop-k in
    let a = c.args in
    let here = λ (j : ℕ). bad_cell a.s j (get_or a.cells.now j 0) in
    rw (any_more l.k here, c.bad_cell-bad.ensures, l.invariant) (or_comm (any l.k here) (here l.k))

pub returns : goal.returns
returns c =
    let l = c.loop-k in
    let a = c.args in
    let e : l.k ≡ length a.cells.now = omega arith in
    l.invariant ∙ ap (λ (n : ℕ). any n (λ j. bad_cell a.s j (get_or a.cells.now j 0))) e ∙ any_first (bad_cell a.s) a.cells.now
