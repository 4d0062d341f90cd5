-- `sweeps::signed::difference` meets its contract: two coordinates and their difference are small. Assumes nothing.
use mathlib.Core.Path.{refl}
use native.Mathlib.Omega.{arith}
use lib.IntN.{sub_ℕ}
use Rattle.mesh.proofs.Whole.{diff_is, mag_diff, small, back}
use Rattle.sweeps.proofs.signed.difference.Goals as goal

pub overflow_sub-result : goal.overflow_sub-result
overflow_sub-result c =
    let a = c.args in
    let m = mag_diff a.to a.from 16 c.requires.1 (omega arith) in
    rw (diff_is a.to a.from c.requires.1 c.requires.0) (small (omega arith))

pub returns : goal.returns
returns c =
    let a = c.args in
    let m = mag_diff a.to a.from 16 c.requires.1 (omega arith) in
    let b = back (sub_ℕ a.to a.from) (omega arith) in
    rw (diff_is a.to a.from c.requires.1 c.requires.0, b) (refl, m)
