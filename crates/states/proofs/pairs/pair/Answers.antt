-- `states::pairs::pair` meets its contract: three questions, each answered from the state. Assumes nothing.
use mathlib.Core.Path.{◌≡◌, sym}
use Prim.Native.Nat.{◌<◌}
use Rattle.mesh.specs.Mesh.{nodes}
use Rattle.mesh.specs.Steps.{neighbour}
use Rattle.talk.proofs.State.{pair_is}
use Rattle.states.proofs.pairs.pair.Goals as goal

pub returns : goal.returns
returns c =
    let a = c.args in
    let e : c.neighbour-q.result ≡ neighbour a.s a.k a.j = c.neighbour-q.ensures.0 in
    let l : neighbour a.s a.k a.j < nodes a.s = rw (← e) c.neighbour-q.ensures.1 in
    rw (c.faulty.ensures, c.linked.ensures, c.faulty-2.ensures, e)
    (sym (pair_is a.s a.state.now a.k a.j c.requires.1 l))
