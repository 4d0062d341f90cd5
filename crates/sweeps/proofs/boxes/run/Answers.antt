-- `sweeps::boxes::run` meets its contract: a difference is below 0 exactly if it runs down. Assumes nothing.
use mathlib.Core.Path.{◌≡◌, refl}
use mathlib.Core.Bool.{Bool, true, false, cond}
use Prim.Native.Nat.{ℕ, suc, ◌-◌}
use native.Mathlib.Omega.{arith}
use lib.IntN.{pos, negsuc, sub_ℕ}
use lib.Signed.{lt_z}
use lib.Dec.{ltb}
use borrow.Author.Tests.{le-ltb}
use Rattle.mesh.proofs.Whole.{back}
use Rattle.sweeps.proofs.boxes.run.Goals as goal

below : (b c : ℕ) → lt_z (sub_ℕ b c) (pos 0) ≡ ltb b c
below b c = split (ltb b c)
  where
    split : (t : Bool) → lt_z (cond t (negsuc (c - suc b)) (pos (b - c))) (pos 0) ≡ t
    split true = refl
    split false = le-ltb (b - c) 0 (omega arith)

pub returns : goal.returns
returns c =
    let d = c.difference-d in
    let a = c.args in
    rw (c.size.ensures.0, back d.result (omega arith), d.ensures.0, below a.to a.from)
