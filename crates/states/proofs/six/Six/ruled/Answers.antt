-- `states::six::Six::ruled` meets its contract: the rule of each mark, the second in the reversed orientation. Assumes nothing.
use mathlib.Core.Path.{sym}
use Rattle.states.specs.Six.{byte_at, quick_rule}
use Rattle.states.proofs.Beside.{byte_lt, six_bytes}
use Rattle.states.proofs.six.Six.ruled.Goals as goal

pub returns : goal.returns
unfolding quick_rule
returns c =
    let n = c.args.self.bytes in
    let e = sym (six_bytes n c.args.self.small) in
    rw (c.stuck.ensures.0 (byte_at n) (byte_lt n) e, c.stuck-2.ensures.0 (byte_at n) (byte_lt n) e)
