-- `rounds::figuring::how_many_marks` meets its contract. Assumes nothing.
use Rattle.rounds.proofs.Figures.{marks_counted, marks_few}
use Rattle.rounds.proofs.figuring.how_many_marks.Goals as goal

pub returns : goal.returns
returns c = let e = marks_counted c.args.b c.ranges.b.fits in (e, rw e (marks_few c.args.b))
