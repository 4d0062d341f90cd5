-- `rounds::figuring::marks_held` meets its contract: the marks of the nodes so far are counted, and the bytes of the others are left. Assumes nothing.
use mathlib.Core.Path.{◌≡◌}
use Prim.Native.Nat.{◌*◌, ◌≤◌}
use lib.ListN.{length, drop}
use Rattle.mesh.specs.Tools.{sum}
use Rattle.talk.specs.State.{own}
use Rattle.rounds.specs.Figures.{how_many_marks}
use Rattle.rounds.proofs.figuring.marks_held.Given as goal

abbrev pub invariant-loop-node : goal.invariant-loop-node
invariant-loop-node l =
    let n = length l.yielded in
    (goal.iterator-loop-node).can_next l.node-iterator
    × (goal.iterator-loop-node).is_finite l.node-iterator
    × (l.node-iterator.size ≡ 7)
    × (l.node-iterator.rest.now ≡ drop (7 * n) l.state)
    × (l.held ≡ sum n λ k. how_many_marks (own l.state k))
    × (l.held ≤ 2 * n)
    × (7 * n ≤ length l.state)
