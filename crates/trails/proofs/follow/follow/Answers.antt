-- `trails::follow::follow` meets its contract: the place is where the way has come to. Assumes nothing.
use mathlib.Core.Path.{◌≡◌, refl, sym, ap, ◌∙◌, subst}
use mathlib.Core.List.{List}
use Prim.Native.Nat.{ℕ, ◌+◌}
use native.Mathlib.Numerals.{add-one}
use native.Mathlib.Omega.{arith}
use lib.ListN.{length, take, length-take}
use Rattle.mesh.specs.Mesh.{number}
use Rattle.mesh.proofs.Fill.{fill_none, fill_more, filled_front}
use Rattle.mesh.proofs.Numbers.{nodes_le}
use Rattle.mesh.specs.declared.Sizes.{Sizes}
use Rattle.mesh.specs.declared.Place.{Place}
use Rattle.rows.specs.Box.{reach, Within}
use Rattle.rows.proofs.Box.{far_in}
use Rattle.rows.specs.declared.Between.{Between}
use Rattle.trails.specs.Table.{nearest, trail}
use Rattle.trails.proofs.Following.{trail_within}
use Rattle.trails.proofs.follow.follow.Goals as goal
use Rattle.trails.proofs.follow.follow.Goals.{In-loop-node}

trail_next : (g : Between) (table : List ℕ) (i : ℕ) (t u : Place) → t ≡ trail g table i → u ≡ nearest table t
    → u ≡ trail g table (i + 1)
trail_next g table i t u e f = rw (add-one i) (f ∙ ap (nearest table) e)

node_at : (S : Sizes) (g : Between) (t u : Place) (k : ℕ) → k ≡ number S (reach g t) → t ≡ u → k ≡ number S (reach g u)
node_at S g t u k e f = e ∙ ap (λ (t : Place). number S (reach g t)) f

-- the place is in the box
here : (c : In-loop-node) → Within c.args.g c.loop-node.t
here c =
    let a = c.args in
    subst (λ (t : Place). Within a.g t) (sym c.loop-node.invariant.at) (trail_within a.g a.table.now c.loop-node.node-index)

pub node-requires : goal.node-requires
node-requires c = (c.requires.0, c.requires.1, here (goal.at.node-requires c).In-loop-node)

pub overflow_cast-node : goal.overflow_cast-node
overflow_cast-node c = omega (arith, c.node.ensures.1, nodes_le c.args.s c.requires.0)

pub step_nearer-t-requires : goal.step_nearer-t-requires
step_nearer-t-requires c =
    let a = c.args in
    (c.requires.2, omega (arith, here (goal.at.step_nearer-t-requires c).In-loop-node, far_in a.s a.g c.requires.0 c.requires.1))

pub loop-node-init : goal.loop-node-init
loop-node-init c = record { at = c.far-t.ensures; written = fill_none _ _ _ }

pub loop-node-preserved : goal.loop-node-preserved
loop-node-preserved c =
    let a = c.args in
    let l = c.loop-node in
    let F = l.invariant.written in
    record {
      at = trail_next a.g a.table.now l.node-index l.t c.step_nearer-t.result l.invariant.at c.step_nearer-t.ensures;
      written = fill_more _ _ _ _ _ _ _ F (omega (arith, F.size)) (λ i h q. omega arith) refl
          (node_at a.s a.g l.t (trail a.g a.table.now l.node-index) c.node.result c.node.ensures.0 l.invariant.at);
    }

pub returns : goal.returns
returns c =
    let a = c.args in
    let l = c.loop-node in
    let F = l.invariant.written in
    let long : length (take a.n a.out.now) ≡ a.n = omega (arith, length-take a.n a.out.now) in
    filled_front (λ i. number a.s (reach a.g (trail a.g a.table.now i))) a.out.now l.node-items a.n c.requires.3 (F.size ∙ long) (λ i h. F.at i (omega (arith, F.size, long)))
