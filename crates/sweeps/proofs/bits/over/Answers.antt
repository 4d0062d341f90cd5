-- `sweeps::bits::over` meets its contract: the rows before it give the way on Z, its own those on X and Y (`rows_ways`). Assumes nothing.
use mathlib.Core.Path.{◌≡◌, ◌∙◌}
use native.Mathlib.Omega.{arith}
use lib.ListN.{length}
use Rattle.sweeps.proofs.RowSweep.{rows_ways}
use Rattle.sweeps.proofs.bits.over.Goals as goal
use Rattle.sweeps.proofs.bits.over.Goals.{After-sweep_rows}

-- still sixteen rows
long : (c : After-sweep_rows) → length c.sweep_rows.new.rows ≡ 16
long c = c.sweep_rows.ensures.0 ∙ c.requires.held

pub seen_at-z-requires : goal.seen_at-z-requires
seen_at-z-requires c =
    let t = c.requires.small in
    (omega arith, omega (arith, c.requires.held), λ h. (omega arith, omega arith))

pub seen_at-requires : goal.seen_at-requires
seen_at-requires c =
    let t = c.requires.small in
    (omega arith, omega (arith, long (goal.at.seen_at-requires c).After-sweep_rows), λ h. (omega arith, omega arith))

pub seen_at-requires-2 : goal.seen_at-requires-2
seen_at-requires-2 c =
    let t = c.requires.small in
    (omega arith, omega (arith, long (goal.at.seen_at-requires-2 c).After-sweep_rows), λ h. (omega arith, omega arith))

pub returns : goal.returns
returns c =
    let g = c.args.g in (
      c.sweep_rows.ensures.0,
      λ m h F. let L = c.sweep_rows.ensures.1 m h F in record {
        over = L;
        ways = λ seen Q H.
            rw (c.seen_at-2.ensures, c.seen_at.ensures, c.seen_at-z.ensures)
            (rows_ways g c.args.c seen c.args.rows.now c.sweep_rows.new.rows H (L.holds seen Q H));
      },
    )
