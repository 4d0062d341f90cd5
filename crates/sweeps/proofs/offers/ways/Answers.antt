-- `sweeps::offers::ways` meets its contract: layer after layer. Assumes nothing.
use mathlib.Core.Path.{refl, ◌∙◌}
use Prim.Native.Nat.{◌+◌}
use native.Mathlib.Omega.{arith}
use Rattle.mesh.specs.Mesh.{Inside}
use Rattle.maps.specs.Shelf.{map_on}
use Rattle.rows.specs.Box.{largest, far, FaultyRows}
use Rattle.rows.proofs.Box.{far_in}
use Rattle.rows.proofs.Faulty.{on_shelf}
use Rattle.sweeps.proofs.RowSweep.{rows_ready, after_none, after_more, ways_more, ways_all}
use Rattle.sweeps.proofs.offers.ways.Goals as goal
use Rattle.sweeps.proofs.offers.ways.Goals.{After-faulty_layer, Start}

small : (c : Start) → Inside largest (far c.args.g)
small c = far_in _ c.args.g c.args.shelf.now.sized c.requires

-- what the layer's faulty nodes are
told : (c : After-faulty_layer) → let a = c.args in FaultyRows (map_on a.shelf.now) a.g c.loop-c.c c.faulty_layer.new.rows
told c b h = c.faulty_layer.ensures.at b (omega arith)

pub faulty_layer-requires : goal.faulty_layer-requires
faulty_layer-requires c =
    (c.requires, omega arith, omega (arith, small (goal.at.faulty_layer-requires c).Start, c.loop-c.invariant.given))

pub over-w-requires : goal.over-w-requires
over-w-requires c =
    let a = c.args in
    let l = c.loop-c in
    rows_ready (map_on a.shelf.now) a.g l.c c.faulty_layer.new.rows l.rows (on_shelf a.shelf.now a.g c.requires) (told (goal.at.over-w-requires c).After-faulty_layer)
    (c.faulty_layer.ensures.size ∙ l.invariant.given) l.invariant.long

pub loop-c-init : goal.loop-c-init
loop-c-init c =
    let a = c.args in
    let t = small (goal.at.loop-c-init c).Start in
    record {
      long = rw c.seeded-rows.ensures;
      given = refl;
      after = after_none (map_on a.shelf.now) a.g c.seeded-rows.result (omega arith) c.seeded-rows.ensures;
      ways = λ h. absurd (omega arith);
    }

pub loop-c-preserved : goal.loop-c-preserved
loop-c-preserved c =
    let a = c.args in
    let l = c.loop-c in
    let m = map_on a.shelf.now in
    let rows = c.over-w.new.rows in
    let L = c.over-w.ensures.1 m (omega arith) (told (goal.at.loop-c-preserved c).After-faulty_layer) in
    record {
      long = c.over-w.ensures.0 ∙ l.invariant.long;
      given = c.faulty_layer.ensures.size ∙ l.invariant.given;
      after = after_more m a.g l.c (l.c + 1) l.rows rows L.over l.invariant.after;
      ways = ways_more m a.g l.c l.rows rows c.over-w.result L l.invariant.after;
    }

pub returns : goal.returns
returns c =
    let a = c.args in
    let l = c.loop-c in
    ways_all (map_on a.shelf.now) a.g l.c l.w (omega arith) l.invariant.ways
