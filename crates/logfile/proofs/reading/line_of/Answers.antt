-- `logfile::reading::line_of` meets its contract: the lines passed are the first. Assumes nothing.
use mathlib.Core.List.{[]}
use mathlib.Core.Path.{◌≡◌, ap, ◌∙◌, subst}
use Prim.Native.Nat.{ℕ, ◌+◌}
use native.Mathlib.Omega.{arith}
use lib.ListN.{length, get_or, length-drop}
use Rattle.logfile.specs.Log.{before, lines_of}
use Rattle.logfile.specs.declared.Stop.TheVariants.{Feed}
use Rattle.logfile.proofs.Lines.{line_within, line_passed, line_is}
use Rattle.logfile.proofs.reading.line_of.Goals as goal

pub loop-preserved : goal.loop-preserved
loop-preserved c =
    let rest = c.loop.rest.now in
    let after = c.split_line.ensures.rest in (
      omega (arith, ap length after, length-drop (before Feed rest + 1) rest, c.loop.invariant.0),
      ap lines_of after ∙ line_passed c.args.text.now rest c.loop.counter c.loop.invariant.1 (omega (arith, c.requires)),
    )

pub returns : goal.returns
returns c =
    let text = c.args.text.now in
    let rest = c.loop.rest.now in
    let line = c.split_line-2.ensures.line in
    let all : c.loop.counter ≡ c.args.k = omega arith in
    let is = line ∙ line_is text rest c.loop.counter c.loop.invariant.1 (omega (arith, c.requires)) in (
      subst (λ (n : ℕ). c.split_line-2.result.0.now ≡ get_or (lines_of text) n []) all is,
      omega (arith, ap length line, line_within rest, c.loop.invariant.0),
    )
