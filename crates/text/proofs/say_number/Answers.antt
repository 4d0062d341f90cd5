-- `text::say_number` meets its contract: the digits are stored from the last to the first. Assumes nothing.
use mathlib.Core.Path.{subst, ◌∙◌}
use mathlib.Core.List.{List}
use Prim.Native.Nat.{ℕ, ◌+◌, ◌-◌, ◌≤◌}
use native.Mathlib.Omega.{arith}
use lib.ListN.{length, set, drop, length-set, length-drop}
use lib.Seq.{take_all}
use Rattle.text.specs.Text.{Said}
use Rattle.text.proofs.Decimal.{storing_more, storing_all}
use Rattle.text.proofs.say_number.Goals as goal

pub loop-rest-preserved : goal.loop-rest-preserved
loop-rest-preserved c = storing_more c.loop-rest.invariant c.loop-rest-test.true

pub returns : goal.returns
returns c =
    let l = c.loop-rest in
    let digits = set l.digits l.i (48 + l.rest) in
    let size : length (drop l.i digits) ≤ 20 - l.i = omega (arith, length-drop l.i digits, length-set l.digits l.i (48 + l.rest), l.invariant.room) in
    let e = take_all (20 - l.i) (drop l.i digits) size ∙ storing_all l.invariant c.loop-rest-test.false in
    subst (λ (l : List ℕ). Said c.args.out.now c.args.at l c.say.new.out c.say.result) e c.say.ensures
