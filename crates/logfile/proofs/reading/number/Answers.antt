-- `logfile::reading::number` meets its contract: what is read from the bytes left is what is read from all. Assumes nothing.
use mathlib.Core.Path.{◌≡◌, sym, ◌∙◌}
use mathlib.Core.Bool.{Bool, true, false, cond}
use mathlib.Core.List.{List}
use Prim.Native.Nat.{ℕ}
use native.Mathlib.Omega.{arith}
use lib.Dec.{eqb}
use lib.ListN.{length, get_or}
use Rattle.logfile.specs.Log.{digit, read_from, number_of}
use Rattle.logfile.proofs.Digits.{one_digit, no_digit, too_large, all_read}
use Rattle.logfile.proofs.reading.number.Goals as goal
use Rattle.logfile.proofs.reading.number.Goals.{After-is_ascii_digit}
use Rattle.std.specs.Prelude.{None}

-- whether there is a byte
started : (word : List ℕ) (none : Bool) → eqb (length word) 0 ≡ none → cond none None (read_from 0 word) ≡ number_of word
unfolding number_of
started word none e = rw e

-- whether the byte is a digit
tested : (c : After-is_ascii_digit) → digit (get_or c.args.word.now c.loop-b.b-index 0) ≡ c.is_ascii_digit.result
unfolding digit
tested c = sym c.is_ascii_digit.ensures.value

pub returns-then-is_empty : goal.returns-then-is_empty
returns-then-is_empty c = started c.args.word.now true (sym c.is_empty.ensures ∙ c.if-is_empty.true)

pub loop-b-init : goal.loop-b-init
loop-b-init c = (omega arith, started c.args.word.now false (sym c.is_empty.ensures ∙ c.if-is_empty.false))

pub returns-then-not-is_ascii_digit : goal.returns-then-not-is_ascii_digit
returns-then-not-is_ascii_digit c =
    let l = c.loop-b in
    let known = (goal.at.returns-then-not-is_ascii_digit c).After-is_ascii_digit in
    sym (no_digit c.args.word.now l.b-index l.n (omega arith) (tested known ∙ c.if-not-is_ascii_digit.true)) ∙ l.invariant.1

pub returns-then-n-ge4294967296 : goal.returns-then-n-ge4294967296
returns-then-n-ge4294967296 c =
    let l = c.loop-b in
    let known = (goal.at.returns-then-n-ge4294967296 c).After-is_ascii_digit in
    sym (too_large c.args.word.now l.b-index l.n (omega arith) (tested known ∙ c.if-not-is_ascii_digit.false) c.if-n-ge4294967296.true) ∙ l.invariant.1

pub loop-b-preserved : goal.loop-b-preserved
loop-b-preserved c =
    let l = c.loop-b in
    let known = (goal.at.loop-b-preserved c).After-is_ascii_digit in (
      c.if-n-ge4294967296.false,
      sym (one_digit c.args.word.now l.b-index l.n (omega arith) (tested known ∙ c.if-not-is_ascii_digit.false) c.if-n-ge4294967296.false) ∙ l.invariant.1,
    )

pub returns : goal.returns
returns c = sym (all_read c.args.word.now c.loop-b.b-index c.loop-b.n (omega arith)) ∙ c.loop-b.invariant.1
