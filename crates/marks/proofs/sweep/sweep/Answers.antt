-- `marks::sweep::sweep` meets its contract: layer after layer, each over the one before it. Assumes nothing.
use mathlib.Core.Path.{◌≡◌, sym, ap, ◌∙◌, subst}
use mathlib.Core.List.{List}
use Prim.Native.Nat.{ℕ, ◌+◌, ◌-◌, ◌<◌, ◌≤◌}
use native.Mathlib.Omega.{arith}
use lib.ListN.{length}
use Rattle.maps.specs.Shelf.{map_on}
use Rattle.mesh.specs.Mesh.{place, nodes, number, Inside}
use Rattle.mesh.proofs.Numbers.{number_lt}
use Rattle.rows.specs.Box.{largest, reach, far, Within, Held, spot}
use Rattle.rows.proofs.Box.{far_in, reach_in}
use Rattle.mesh.specs.declared.Place.{Place}
use Rattle.marks.specs.Sweep.{prior, Shuts, Holds, Layers}
use Rattle.marks.proofs.Rows.{whole_held, shut_left, shuts_whole, beyond_holds, over_holds}
use Rattle.marks.proofs.Added.{layers_none, fresh, layers_more, layers_skip, swept_none, swept_all}
use Rattle.marks.proofs.sweep.sweep.Goals as goal
use Rattle.marks.proofs.sweep.sweep.Goals.{After-whole-g, then-stuck-ne0, else-stuck-ne0}

-- the box of all nodes
held : (c : After-whole-g) → Held c.args.shelf.now.sizes c.whole-g.result
held c =
    let a = c.args in
    rw c.whole-g.ensures (whole_held a.shelf.now.sizes a.o a.shelf.now.sized)

small : (c : After-whole-g) → Inside largest (far c.whole-g.result)
small c = far_in _ c.whole-g.result c.args.shelf.now.sized (held c)

deep : (c : After-whole-g) → c.whole-g.result.z.steps + 1 ≡ c.args.shelf.now.sizes.d
deep c =
    let s = c.args.shelf.now in
    let e : c.whole-g.result.z.steps ≡ s.sizes.d - 1 = ap (λ g. g.z.steps) c.whole-g.ensures in
    omega (arith, s.sized.d_lo)

-- a node of the box has a byte
within : (c : After-whole-g) (t : Place) → Within c.whole-g.result t
    → let S = c.args.shelf.now.sizes in number S (reach c.whole-g.result t) < nodes S
within c t w =
    let S = c.args.shelf.now.sizes in
    number_lt S (reach c.whole-g.result t) (reach_in S c.whole-g.result t (held c) w)

pub returns-then-not-any_blocked : goal.returns-then-not-any_blocked
returns-then-not-any_blocked c =
    let a = c.args in
    swept_none (map_on a.shelf.now) a.o a.v a.out.now (c.any_blocked.ensures (c.if-not-any_blocked.true))

pub loop-c-init : goal.loop-c-init
loop-c-init c =
    let a = c.args in
    let m = map_on a.shelf.now in
    record {
      long = ap length c.beyond-rows.ensures;
      holds = subst (Holds c.whole-g.result (prior m (shut_left m a.o) 0)) (sym c.beyond-rows.ensures) (beyond_holds m c.whole-g.result (shut_left m a.o) (small (goal.at.loop-c-init c).After-whole-g));
      layers = layers_none _ _ _ _ _;
    }

pub over-stuck-requires : goal.over-stuck-requires
over-stuck-requires c =
    (held (goal.at.over-stuck-requires c).After-whole-g, c.loop-c.invariant.long, omega (arith, deep (goal.at.over-stuck-requires c).After-whole-g))

pub add_layer-requires : goal.add_layer-requires
add_layer-requires c =
    let a = c.args in
    let g = c.whole-g.result in
    let L = c.loop-c.invariant.layers in
    let k : c.loop-c.c ≤ g.z.steps = omega (arith, deep (goal.at.add_layer-requires c).After-whole-g, c.loop-c-test.true) in (
      record { sized = a.shelf.now.sized; held = held (goal.at.add_layer-requires c).After-whole-g; fits = λ t i. omega (arith, within (goal.at.add_layer-requires c).After-whole-g t i, c.requires.0, L.size) },
      omega (arith, small (goal.at.add_layer-requires c).After-whole-g, c.over-stuck.ensures.0.size, c.loop-c.invariant.long),
      k,
      λ i j li lj.
          let n = within (goal.at.add_layer-requires c).After-whole-g (place i j c.loop-c.c) (record { x_le = li; y_le = lj; z_le = k }) in
          omega (arith, fresh (map_on a.shelf.now) g (held (goal.at.add_layer-requires c).After-whole-g) _ _ _ _ c.loop-c.c k L i j li lj, c.requires.1 (spot a.shelf.now.sizes g i j c.loop-c.c) n),
    )

pub loop-c-preserved : goal.loop-c-preserved
loop-c-preserved c =
    let a = c.args in
    let m = map_on a.shelf.now in
    let g = c.whole-g.result in
    let Q : Shuts m g (shut_left m a.o) = subst (λ g. Shuts m g (shut_left m a.o)) (sym c.whole-g.ensures) (shuts_whole m a.o a.shelf.now.sized) in
    let rows = c.over-stuck.new.rows in
    let H = over_holds m g c.loop-c.c c.loop-c.rows rows c.over-stuck.ensures.0 (shut_left m a.o) Q c.loop-c.invariant.holds in
    let hc : c.loop-c.c ≤ g.z.steps = omega (arith, deep (goal.at.loop-c-preserved c).After-whole-g) in
    let L = c.loop-c.invariant.layers in
    let more : List ℕ → Type 0 = λ new. Layers m g (shut_left m a.o) a.v a.out.now new (c.loop-c.c + 1) in
    record {
      long = c.over-stuck.ensures.0.size ∙ c.loop-c.invariant.long;
      holds = H;
      layers = elim c.if-stuck-ne0.branch [
        | then-stuck-ne0 b ↦ subst more (sym b.out-is) (layers_more m g (held (goal.at.loop-c-preserved c).After-whole-g) _ _ _ _ c.loop-c.c hc L rows _ H b.add_layer.ensures)
        | else-stuck-ne0 b ↦ subst more (sym b.out-is) (layers_skip m g (held (goal.at.loop-c-preserved c).After-whole-g) _ _ _ _ c.loop-c.c hc L rows H (c.over-stuck.ensures.1 b.if-stuck-ne0.false))
      ];
    }

pub returns : goal.returns
returns c =
    let a = c.args in
    let m = map_on a.shelf.now in
    let e : c.loop-c.c ≡ a.shelf.now.sizes.d = omega arith in
    swept_all m a.o a.v a.out.now c.loop-c.out a.shelf.now.sized
    (subst (λ g. Layers m g (shut_left m a.o) a.v a.out.now c.loop-c.out a.shelf.now.sizes.d) c.whole-g.ensures
    (subst (λ (n : ℕ). Layers m c.whole-g.result (shut_left m a.o) a.v a.out.now c.loop-c.out n) e c.loop-c.invariant.layers))

pub slice_bounds-over-end : goal.slice_bounds-over-end
slice_bounds-over-end c = sym c.loop-c.invariant.long

pub slice_bounds-add_layer-end : goal.slice_bounds-add_layer-end
slice_bounds-add_layer-end c = sym (c.over-stuck.ensures.0.size ∙ c.loop-c.invariant.long)

pub shape_of-out : goal.shape_of-out
shape_of-out c = c.loop-c.invariant.layers.size
