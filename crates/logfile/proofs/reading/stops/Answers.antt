-- `logfile::reading::stops` meets its contract, case by case. Assumes nothing.
use mathlib.Core.Path.{ap}
use mathlib.Core.Bool.{not}
use Rattle.logfile.proofs.reading.stops.Goals as goal

pub returns-in-Feed : goal.returns-in-Feed
returns-in-Feed c = rw c.in-Feed.is

pub returns-in-Comment : goal.returns-in-Comment
returns-in-Comment c = rw c.in-Comment.is

pub returns-in-Blank : goal.returns-in-Blank
returns-in-Blank c = rw c.in-Blank.is c.blank.ensures

pub returns-in-Word : goal.returns-in-Word
returns-in-Word c = rw c.in-Word.is (ap not c.blank-in-Word.ensures)
