-- `sweeps::signed::way` meets its contract: the three signs. Assumes nothing.
use native.Mathlib.Omega.{arith}
use Rattle.mesh.proofs.Whole.{back, above_zero, below_zero, level}
use Rattle.sweeps.proofs.signed.way.Goals as goal

pub returns-then-d-gt0 : goal.returns-then-d-gt0
returns-then-d-gt0 c =
    let d = c.args.d in
    let (k, e) = above_zero d (rw (back d (omega arith)) at c.if-d-gt0.true) in
    rw e

pub returns-then-d-lt0 : goal.returns-then-d-lt0
returns-then-d-lt0 c =
    let d = c.args.d in
    let (k, e) = below_zero d (rw (back d (omega arith)) at c.if-d-lt0.true) in
    rw e

pub returns : goal.returns
returns c =
    let d = c.args.d in
    let e = level d (rw (back d (omega arith)) at c.if-d-gt0.false) (rw (back d (omega arith)) at c.if-d-lt0.false) in
    rw e
