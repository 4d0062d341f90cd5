-- `rounds::figuring::marks_held` meets its contract: the marks of the nodes so far are counted, and the bytes of the others are left. Assumes nothing.
use mathlib.Core.Path.{◌≡◌, refl, sym, ap, ◌∙◌}
use mathlib.Core.List.{◌∷◌, [], ◌++◌}
use Prim.Native.Nat.{ℕ, ◌+◌, ◌*◌, ◌≤◌}
use native.Mathlib.Omega.{arith}
use Rattle.std.proofs.Common.{length, drop, get_or, length-append, length-drop}
use Rattle.mesh.specs.Tools.{sum}
use Rattle.mesh.specs.Mesh.{nodes}
use Rattle.mesh.proofs.Numbers.{nodes_le}
use Rattle.mesh.proofs.Tables.{sum_more}
use Rattle.talk.specs.State.{own}
use Rattle.rounds.specs.Figures.{how_many_marks, marks_held}
use Rattle.rounds.proofs.Figures.{next_node}
use Rattle.rounds.proofs.figuring.marks_held.Goals as goal
use Rattle.rounds.proofs.figuring.marks_held.Goals.{In-Some}

-- what the next seven bytes are
next : (c : In-Some) → let s = c.args.state.now in let n = length c.loop-node.yielded in
    (c.next.new.self.rest.now ≡ drop (7 * (n + 1)) s) × (get_or c.in-Some.node.now 0 0 ≡ own s n) × (7 * (n + 1) ≤ length s)
next c =
    let i = c.loop-node.invariant in
    let (size, (parts, whole), rem) = c.in-Some.ensures.steps in
    next_node c.args.state.now c.in-Some.node.now c.next.new.self.rest.now (length c.loop-node.yielded) (sym i.3 ∙ parts) (whole ∙ i.2)

pub loop-node-init : goal.loop-node-init
unfolding sum
loop-node-init c =
    let s = c.chunks_exact-node-items.ensures in
    rw c.into_iter-node-iterator.ensures.into_iter_gives (rw s.size (omega arith), tt, s.size, s.rest, refl, omega arith, omega arith)

pub loop-node-preserved : goal.loop-node-preserved
loop-node-preserved c =
    let i = c.loop-node.invariant in
    let n = length c.loop-node.yielded in
    let s = c.args.state.now in
    let (size, _, _) = c.in-Some.ensures.steps in
    let (rest, first, whole) = next (goal.at.loop-node-preserved c).In-Some in
    let (e, few) = c.how_many_marks-held.ensures in
    let one : length (c.loop-node.yielded ++ c.in-Some.node ∷ []) ≡ n + 1 = length-append c.loop-node.yielded (c.in-Some.node ∷ []) in
    let marks : c.how_many_marks-held.result ≡ how_many_marks (own s n) = e ∙ ap how_many_marks first in
    let known : c.next.new.self.size ≡ 7 = size ∙ i.2 in
    rw one (
      omega arith,
      tt,
      known,
      rest,
      omega (arith, i.4, marks, sum_more n λ k. how_many_marks (own s k)),
      omega (arith, i.5, few),
      whole,
    )

pub overflow_add-held : goal.overflow_add-held
overflow_add-held c =
    let (_, _, whole) = next (goal.at.overflow_add-held c).In-Some in
    omega (arith, whole, c.loop-node.invariant.5, c.how_many_marks-held.ensures.1, c.requires.long, nodes_le c.args.s c.requires.sized)

pub returns : goal.returns
unfolding marks_held
returns c =
    let i = c.loop-node.invariant in
    let s = c.args.state.now in
    let n = length c.loop-node.yielded in
    let (_, (few, _), _) = c.in-None.ensures.steps in
    let all : n ≡ nodes c.args.s = omega (arith, few, i.2, i.6, ap length i.3, length-drop (7 * n) s, c.requires.long) in
    i.4 ∙ ap (λ (n : ℕ). sum n λ k. how_many_marks (own s k)) all
