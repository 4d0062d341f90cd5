-- `sweeps::bits::sweep_rows` meets its contract: row after row. Assumes nothing.
use mathlib.Core.Path.{◌≡◌, refl, ap, ◌∙◌}
use Prim.Native.Nat.{ℕ, ◌+◌, ◌-◌, ◌<◌, ◌≤◌}
use native.Mathlib.Omega.{arith}
use lib.ListN.{length, get_or, take, length-take}
use lib.Bits.{bit_or}
use Rattle.std.proofs.lemmas.List.{get_or-take}
use Rattle.rows.specs.Row.{bit_at, swept}
use Rattle.sweeps.proofs.RowSweep.{row_passes, over_none, first_none, first_more, before_more, over_more, over_all}
use Rattle.sweeps.proofs.bits.sweep_rows.Goals as goal
use Rattle.sweeps.proofs.bits.sweep_rows.Goals.{Start}

long : (c : Start) → let n = c.args.g.y.steps + 1 in length (take n c.args.faulty.now) ≡ n
long c = omega (arith, c.requires.small, c.requires.given, length-take (c.args.g.y.steps + 1) c.args.faulty.now)

pub loop-b-init : goal.loop-b-init
loop-b-init c = record { first = first_none c.args.c; before = refl; over = λ m h F. over_none m c.args.g c.args.c c.args.rows.now }

-- row b's faulty nodes, which are some of all
at : (c : Start) (b : ℕ) → b ≤ c.args.g.y.steps → get_or (take (c.args.g.y.steps + 1) c.args.faulty.now) b 0 ≡ get_or c.args.faulty.now b 0
at c b h = get_or-take (c.args.g.y.steps + 1) c.args.faulty.now b 0 (omega arith)

pub overflow_sub-pass : goal.overflow_sub-pass
overflow_sub-pass c =
    let s = (goal.at.overflow_sub-pass c).Start in
    let b = c.loop-b.b in
    let h : b ≤ c.args.g.y.steps = omega (arith, long s) in
    omega (arith, at s b h, c.requires.within b h, c.full-all.ensures)

pub loop-b-preserved : goal.loop-b-preserved
loop-b-preserved c =
    let a = c.args in
    let l = c.loop-b in
    let i = l.invariant in
    let v = c.sweep_row-last.result in
    let pass = c.full-all.result - get_or (take (a.g.y.steps + 1) a.faulty.now) l.b 0 in
    let h : l.b ≤ a.g.y.steps = omega (arith, long (goal.at.loop-b-preserved c).Start) in
    let room : l.b < length l.rows = omega (arith, c.requires.small, c.requires.held) in
    record {
      first = first_more l.b a.c;
      before = before_more l.rows l.b v room;
      over = λ m t F. over_more m a.g a.c t l.b h a.rows.now l.rows (i.over m t F) pass l.first v room
          (row_passes m a.g l.b a.c _ _ (at (goal.at.loop-b-preserved c).Start l.b h ∙ F l.b h) c.full-all.ensures).1 i.first
          (λ k. c.sweep_row-last.ensures k
          ∙ ap (λ x. swept (bit_at (bit_or pass l.first)) (bit_at (bit_or x (get_or l.rows l.b 0))) (bit_at (bit_or pass l.first)) k) i.before);
    }

pub returns : goal.returns
returns c =
    let a = c.args in
    let l = c.loop-b in
    (c.loop-b.auto.rows, λ m h F. over_all m a.g a.c l.b a.rows.now l.rows (omega (arith, long (goal.at.returns c).Start)) (l.invariant.over m h F))
