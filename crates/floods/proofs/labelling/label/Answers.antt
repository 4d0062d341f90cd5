-- `floods::labelling::label` meets its contract. The loops' invariant: what is known at the next place. Assumes nothing.
use mathlib.Core.Path.{◌≡◌, ap, ◌∙◌}
use native.Mathlib.Omega.{arith}
use lib.ListN.{length}
use lib.Seq.{length-take-le, get_or-take}
use Rattle.floods.proofs.Boxes.{boxed_front}
use Rattle.floods.proofs.Turns.{turn_past, turn_layer, turn_end, few_yet, some, spots, turn_more}
use Rattle.floods.proofs.labelling.label.Goals as goal
use Rattle.floods.proofs.labelling.label.Goals.{After-as_slice}

-- how many places the flood has reached
reached : (c : After-as_slice) → length c.as_slice.result.now ≡ c.fill.new.self.tail
reached c =
    let q = c.fill.new.self in
    ap length c.as_slice.ensures ∙ length-take-le q.tail q.places (omega (arith, q.few, q.room))

pub loop-at-preserved-then-grid-at : goal.loop-at-preserved-then-grid-at
loop-at-preserved-then-grid-at c = turn_past c.loop-at.invariant c.if-grid-at.true

pub record_of-requires : goal.record_of-requires
record_of-requires c =
    let q = c.fill.new.self in
    let T = c.loop-at.invariant in
    let u = c.if-grid-at.false in
    let many = reached (goal.at.record_of-requires c).After-as_slice in (
      omega (arith, many, some T u c.fill.ensures),
      omega (arith, many, q.few),
      λ t l. rw (c.as_slice.ensures, get_or-take q.tail q.places t 0 (omega (arith, many)))
          (spots T u c.fill.ensures t (omega (arith, many))),
    )

pub bounds-found-n : goal.bounds-found-n
bounds-found-n c = few_yet c.loop-at.invariant c.if-grid-at.false

pub loop-at-preserved : goal.loop-at-preserved
loop-at-preserved c =
    let q = c.fill.new.self in
    let many = reached (goal.at.loop-at-preserved c).After-as_slice in
    let (count, box) = c.record_of.ensures in
    turn_more c.loop-at.invariant c.if-grid-at.false c.fill.ensures c.fill.new.grid.whole c.record_of.result (count ∙ many)
    (boxed_front q.places q.tail c.record_of.result (rw (many, c.as_slice.ensures) at box)) c.loop-at.found.room

pub loop-z-preserved : goal.loop-z-preserved
loop-z-preserved c =
    let p = c.requires in
    turn_layer c.loop-at.invariant c.args.h c.args.d c.loop-z.z p.1 (p.3 (omega arith)) (omega arith)

pub returns : goal.returns
returns c =
    let p = c.requires in
    turn_end c.loop-z.invariant c.args.h c.args.d p.1 p.2 (omega arith)
