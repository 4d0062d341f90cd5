-- `floods::flood::Flood::fill` meets its contract. The loop's invariant: the places before the head have been spread from. Assumes nothing.
use mathlib.Core.Path.{◌≡◌, refl, ◌∙◌}
use Prim.Native.Nat.{◌+◌}
use native.Mathlib.Omega.{arith}
use lib.ListN.{get_or}
use Rattle.grids.specs.Grid.{unseen}
use Rattle.floods.specs.Flood.{how_often, Part}
use Rattle.grids.proofs.Around.{spot_le}
use Rattle.floods.proofs.Parts.{begins, drained_more, drained_all}
use Rattle.floods.proofs.flood.Flood.fill.Goals as goal
use Rattle.floods.proofs.flood.Flood.fill.Goals.{After-visit}

-- after the first place
begun : (c : After-visit) →
    let a = c.args in
    let v = c.visit.new in
    Part a.grid.now.cells a.start a.number v.grid.cells v.self.places v.self.tail
    × (how_often v.grid.cells a.number ≡ v.self.tail)
    × (get_or v.grid.cells a.start 0 ≡ unseen → ⊥)
begun c =
    let p = c.requires in
    begins c.args.grid.now.cells c.args.number p.3 (record { grid = c.args.grid.now.whole; queue = c.args.self.now.room }) p.0
    (omega (arith, spot_le c.args.start (p.2 c.args.start p.1))) p.1 c.visit.ensures.2

pub loop-from-init : goal.loop-from-init
loop-from-init c =
    let b = begun (goal.at.loop-from-init c).After-visit in
    let v = c.visit.new in (
      c.visit.ensures.0,
      record {
        sized = record { grid = v.grid.whole; queue = v.self.room };
        grows = λ g w. w;
        counted = b.1;
        behind = v.self.begun;
        closed = λ t j h. absurd (omega (arith, c.visit.ensures.1));
        started = b.2;
      },
    )

pub spread-requires : goal.spread-requires
spread-requires c =
    let (number, d) = c.loop-from.invariant in
    let (l, e, _) = c.in-Some.ensures.some in
    let (same, tail, _) = c.in-Some.ensures.kept in
    let part = d.grows c.args.grid.now.cells (begun (goal.at.spread-requires c).After-visit).0 in
    (c.requires.2 _ (rw e (part.each c.loop-from.self.head l).0), rw (same, tail, number) d.counted)

pub loop-from-preserved : goal.loop-from-preserved
loop-from-preserved c =
    let (number, d) = c.loop-from.invariant in
    let (l, e, n) = c.in-Some.ensures.some in
    let (same, tail, places) = c.in-Some.ensures.kept in
    let (still, stood, spread) = c.spread.ensures in
    let head : c.spread.new.self.head ≡ c.loop-from.self.head + 1 = stood ∙ n in (
      still ∙ same ∙ number,
      rw head (drained_more d (record { grid = c.spread.new.grid.whole; queue = c.spread.new.self.room }) l
          (rw (same, number, tail, places, e) at spread)),
    )

pub returns : goal.returns
returns c =
    let (_, tail, places) = c.in_default.ensures.kept in
    let (all, _) = c.in_default.ensures.none refl in
    rw (tail, places)
    (drained_all c.loop-from.invariant.1 c.args.grid.now.cells (begun (goal.at.returns c).After-visit).0 c.requires.1 (omega (arith, all)))
