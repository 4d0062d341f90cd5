-- What the lines of a log add to the totals, one after another, and that none is added at the end. Assumes nothing.
use mathlib.Core.Path.{◌≡◌, sym, ap}
use mathlib.Core.Bool.{Bool, true, false, cond}
use mathlib.Core.List.{List}
use Prim.Native.Nat.{ℕ, ◌+◌, ◌≤◌, ◌<◌}
use native.Mathlib.Omega.{arith}
use lib.ListN.{length, drop}
use Rattle.mesh.specs.declared.Sizes.{Sizes}
use Rattle.paths.specs.Entries.{verdict_answer}
use Rattle.logfile.specs.Log.{before, up_to, lines_of, entry_of}
use Rattle.logfile.specs.declared.Entry.{Entry}
use Rattle.logfile.specs.declared.Entry.TheVariants.{Nothing, Transfer, NoPair}
use Rattle.logfile.specs.declared.Stop.TheVariants.{Feed}
use Rattle.logfile.proofs.Lines.{lines_from, no_line}
use Rattle.audit.specs.Audit.{plus, judge, tally, line_totals, totals_from, Few}
use Rattle.transfers.specs.Transfer.{no_path}
use Rattle.audit.specs.declared.Totals.{Totals}
use Rattle.std.specs.Prelude.{Ok, Err, Result}
use Rattle.mesh.specs.declared.Refusal.{Refusal}
use Rattle.paths.specs.declared.Grant.{Grant}

pub more : {t : Totals} {n k : ℕ} → Few t n → n ≤ k → Few t k
more few h = omega (arith, few.lines_le, few.granted_le, few.pathless_le, few.refused_le, few.unread_le)

module _ (S : Sizes) (cells : List ℕ) where
  pub totals_next : (t : Totals) (rest : List ℕ) {next : Totals} {line after : List ℕ} → 0 < length rest → next ≡ line_totals S cells t line → line ≡ up_to Feed rest
      → after ≡ drop (before Feed rest + 1) rest → totals_from S cells next (lines_of after) ≡ totals_from S cells t (lines_of rest)
  unfolding totals_from
  totals_next t rest h is first others = rw (is, first, others) (sym (ap (totals_from S cells t) (lines_from rest h)))

  pub totals_end : (t : Totals) (rest : List ℕ) → length rest ≡ 0 → totals_from S cells t (lines_of rest) ≡ t
  unfolding totals_from
  totals_end t rest h = ap (totals_from S cells t) (no_line rest h)

  -- a line adds at most one to each total
  module _ (t : Totals) (n : ℕ) (few : Few t n) where
    few_plus : (g p r u : ℕ) → g ≤ 1 → p ≤ 1 → r ≤ 1 → u ≤ 1 → Few (plus t g p r u) (n + 1)
    few_plus g p r u hg hp hr hu = omega (arith, few.lines_le, few.granted_le, few.pathless_le, few.refused_le, few.unread_le)

    few_judge : (v : Result Grant Refusal) → Few (judge t v) (n + 1)
    few_judge (Ok g) = few_plus 1 0 0 0 (omega arith) (omega arith) (omega arith) (omega arith)
    few_judge (Err r) = go (no_path r)
      where
        go : (x : Bool) → Few (cond x (plus t 0 1 0 0) (plus t 0 0 1 0)) (n + 1)
        go true = few_plus 0 1 0 0 (omega arith) (omega arith) (omega arith) (omega arith)
        go false = few_plus 0 0 1 0 (omega arith) (omega arith) (omega arith) (omega arith)

    few_tally : (y : Entry) → Few (tally S cells t y) (n + 1)
    few_tally Nothing = few_plus 0 0 0 0 (omega arith) (omega arith) (omega arith) (omega arith)
    few_tally (Transfer s e) = few_judge (verdict_answer S cells s e)
    few_tally NoPair = few_plus 0 0 0 1 (omega arith) (omega arith) (omega arith) (omega arith)

    pub few_line : {next : Totals} (line : List ℕ) → next ≡ line_totals S cells t line → Few next (n + 1)
    unfolding line_totals
    few_line line is = rw is (few_tally (entry_of line))
