-- `rounds::links::visit` meets its contract: the number drawn chooses the fate that the word meets. Assumes nothing.
use Rattle.rounds.proofs.Visited.{visited}
use Rattle.rounds.proofs.links.visit.Goals as goal

pub returns : goal.returns
returns c =
    let a = c.args in
    let (e, f) = c.meet.ensures a.drawn in
    rw (e, f, c.of.ensures) (visited a.s a.o _ a.link c.following-g.result c.following-g.ensures)
