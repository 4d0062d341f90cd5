-- `logfile::reading::entry` meets its contract: the words that it finds are those of the line. Assumes nothing.
use mathlib.Core.Path.{◌≡◌, sym, ap, ◌∙◌}
use borrow.Author.Tests.{eqb-true, eqb-false}
use Rattle.logfile.specs.Log.{up_to, past, number_of, pair_of, entry_of}
use Rattle.logfile.specs.declared.Stop.TheVariants.{Comment, Blank, Word}
use Rattle.logfile.proofs.Entries.{no_start, no_end, a_pair, says_nothing, says_more, says_pair}
use Rattle.logfile.proofs.reading.entry.Goals as goal
use Rattle.logfile.proofs.reading.entry.Goals.{After-number, After-number-2, After-past-first, Else-not-is_empty}

-- the first word, and where two words are all
first_is : (c : After-past-first) → c.past-first.result.now ≡ past Word (up_to Comment c.args.line.now)
first_is c = c.past-first.ensures ∙ ap (past Word) c.up_to.ensures

pair_is : (c : Else-not-is_empty) →
    pair_of (number_of (up_to Blank c.past-first.result.now)) (number_of (up_to Blank c.next_word-second.result.now))
    ≡ entry_of c.args.line.now
pair_is c =
    says_pair c.args.line.now c.past-first.result.now (c.past-first.ensures ∙ ap (past Word) c.up_to.ensures) (eqb-false _ _ (sym c.is_empty.ensures ∙ c.if-is_empty.false))
    c.next_word-second.result.now c.next_word-rest.result.now c.next_word-second.ensures c.next_word-rest.ensures (eqb-true _ _ (sym c.is_empty-2.ensures ∙ c.if-not-is_empty.false))

-- the two words as numbers
start_is : (c : After-number) → c.number.result ≡ number_of (up_to Blank c.past-first.result.now)
start_is c = c.number.ensures ∙ ap number_of c.up_to-2.ensures

end_is : (c : After-number-2) →
    c.number-2.result ≡ number_of (up_to Blank c.next_word-second.result.now)
end_is c = c.number-2.ensures ∙ ap number_of c.up_to-3.ensures

pub returns-then-is_empty : goal.returns-then-is_empty
returns-then-is_empty c = says_nothing c.args.line.now c.past-first.result.now (first_is (goal.at.returns-then-is_empty c).After-past-first) (eqb-true _ _ (sym c.is_empty.ensures ∙ c.if-is_empty.true))

pub returns-then-not-is_empty : goal.returns-then-not-is_empty
returns-then-not-is_empty c =
    says_more c.args.line.now c.past-first.result.now (first_is (goal.at.returns-then-not-is_empty c).After-past-first) (eqb-false _ _ (sym c.is_empty.ensures ∙ c.if-is_empty.false))
    c.next_word-second.result.now c.next_word-rest.result.now c.next_word-second.ensures c.next_word-rest.ensures (eqb-false _ _ (sym c.is_empty-2.ensures ∙ c.if-not-is_empty.true))

pub returns-in_default : goal.returns-in_default
returns-in_default c =
    no_start _ _ (sym (start_is (goal.at.returns-in_default c).After-number) ∙ c.in_default.is) ∙ pair_is (goal.at.returns-in_default c).Else-not-is_empty

pub returns-in_default-number : goal.returns-in_default-number
returns-in_default-number c =
    no_end _ _ c.in-Some.start (sym (start_is (goal.at.returns-in_default-number c).After-number) ∙ c.in-Some.is)
    (sym (end_is (goal.at.returns-in_default-number c).After-number-2) ∙ c.in_default-number.is) ∙ pair_is (goal.at.returns-in_default-number c).Else-not-is_empty

pub returns : goal.returns
returns c =
    a_pair _ _ c.in-Some.start c.in-Some-number.end (sym (start_is (goal.at.returns c).After-number) ∙ c.in-Some.is)
    (sym (end_is (goal.at.returns c).After-number-2) ∙ c.in-Some-number.is) ∙ pair_is (goal.at.returns c).Else-not-is_empty
