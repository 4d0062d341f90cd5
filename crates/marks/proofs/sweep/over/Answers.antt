-- `marks::sweep::over` meets its contract: row after row. Assumes nothing.
use mathlib.Core.Path.{◌≡◌, refl, ap, ◌∙◌, subst}
use Prim.Native.Nat.{ℕ, ◌+◌, ◌<◌, ◌≤◌}
use native.Mathlib.Omega.{arith}
use lib.ListN.{length, get_or, take, length-take}
use lib.Bits.{bit_and, bit_or}
use Rattle.std.proofs.lemmas.List.{get_or-take}
use Rattle.mesh.specs.Mesh.{Inside}
use Rattle.maps.specs.Shelf.{map_on}
use Rattle.rows.specs.Row.{bit_at, swept}
use Rattle.rows.specs.Box.{largest, far, faulty_row}
use Rattle.rows.proofs.Box.{far_in}
use Rattle.marks.specs.Sweep.{Over}
use Rattle.marks.proofs.Rows.{over_none, before_more, over_more, AsFaulty, as_faulty_more, as_faulty_all}
use Rattle.marks.proofs.sweep.over.Goals as goal
use Rattle.marks.proofs.sweep.over.Goals.{After-faulty_layer, Start}

small : (c : Start) → Inside largest (far c.args.g)
small c = far_in _ c.args.g c.args.shelf.now.sized c.requires.0

-- the faulty nodes of a layer's rows
told : (c : After-faulty_layer) → let a = c.args in
    (b : ℕ) → b ≤ a.g.y.steps → get_or (take (a.g.y.steps + 1) c.faulty_layer.new.rows) b 0 ≡ faulty_row (map_on a.shelf.now) a.g b a.c
told c b h = let f = c.faulty_layer in get_or-take (c.args.g.y.steps + 1) f.new.rows b 0 (omega arith) ∙ f.ensures.at b (omega arith)

long : (c : After-faulty_layer) → let n = c.args.g.y.steps + 1 in length (take n c.faulty_layer.new.rows) ≡ n
long c =
    let n = c.args.g.y.steps + 1 in
    omega (arith, far_in _ c.args.g c.args.shelf.now.sized c.requires.0, c.faulty_layer.ensures.size, length-take n c.faulty_layer.new.rows)

pub loop-b-init : goal.loop-b-init
loop-b-init c = record { before = refl; over = over_none _ _ _ _; none = λ e i l. absurd (omega arith) }

pub loop-b-preserved : goal.loop-b-preserved
loop-b-preserved c =
    let a = c.args in
    let l = c.loop-b in
    let i = l.invariant in
    let v = c.sweep_row-last.result in
    let dead = take (a.g.y.steps + 1) c.faulty_layer.new.rows in
    let layer = (goal.at.loop-b-preserved c).After-faulty_layer in
    let h : l.b ≤ a.g.y.steps = omega (arith, long layer) in
    let room : l.b < length l.rows = omega (arith, small (goal.at.loop-b-preserved c).Start) in
    record {
      before = before_more l.rows l.b v room;
      over = over_more _ a.g a.c c.requires.2 l.b h a.rows.now l.rows i.over (get_or dead l.b 0) v room (told layer l.b h)
          (λ k. c.sweep_row-last.ensures k ∙ ap (λ x. let may = bit_at (bit_or (get_or dead l.b 0) (bit_and x (get_or l.rows l.b 0))) in swept may (bit_at (get_or dead l.b 0)) may k) i.before);
      none = as_faulty_more dead l.rows l.b v l.stuck room i.none;
    }

pub returns : goal.returns
returns c =
    let a = c.args in
    let l = c.loop-b in
    let layer = (goal.at.returns c).After-faulty_layer in
    let e : l.b ≡ a.g.y.steps + 1 = omega (arith, long layer) in (
      subst (Over (map_on a.shelf.now) a.g a.c a.rows.now l.rows) e l.invariant.over,
      λ z. as_faulty_all (map_on a.shelf.now) a.g a.c _ l.rows (told layer) (subst (AsFaulty (take (a.g.y.steps + 1) c.faulty_layer.new.rows) l.rows) e (l.invariant.none z)),
    )
