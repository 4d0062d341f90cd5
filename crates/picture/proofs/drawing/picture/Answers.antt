-- `picture::drawing::picture` meets its contract: the symbols of the map, drawn over the box between its ends. Assumes nothing.
use mathlib.Core.Path.{◌≡◌, ap, ◌∙◌}
use native.Mathlib.Omega.{arith}
use Rattle.std.proofs.Common.{rules}
use lib.ListN.{length, take}
use Rattle.mesh.specs.Mesh.{nodes, place_of}
use Rattle.mesh.specs.Cells.{map_of}
use Rattle.rows.specs.Box.{Held}
use Rattle.rows.proofs.Box.{in_largest}
use Rattle.sweeps.proofs.Runs.{held}
use Rattle.routes.proofs.Ends.{ends_granted}
use Rattle.text.proofs.Adding.{added_then, added_as}
use Rattle.picture.specs.Picture.{symbols}
use Rattle.picture.proofs.Drawn.{symbols_length, drawn_taken, picture_is}
use Rattle.picture.proofs.drawing.picture.Goals as goal
use Rattle.picture.proofs.drawing.picture.Given.{Over}
use Rattle.picture.proofs.drawing.picture.Goals.{After-between-g, After-nodes-n}

-- the symbols, and the box
drawn_is : (g : Over) (c : After-nodes-n g) →
    let a = c.args in
    take c.nodes-n.result c.draw.new.drawn ≡ symbols (map_of a.s a.cells.now) a.start a.end
drawn_is g c =
    let a = c.args in
    drawn_taken (map_of a.s a.cells.now) a.start a.end c.nodes-n.result _ c.draw.new.drawn
    c.nodes-n.ensures.0 c.draw.ensures

drawn_whole : (g : Over) (c : After-nodes-n g) →
    let a = c.args in
    length (take c.nodes-n.result c.draw.new.drawn) ≡ nodes a.s
drawn_whole g c =
    let a = c.args in
    ap length (drawn_is g c) ∙ symbols_length (map_of a.s a.cells.now) a.start a.end

box_held : (g : Over) (c : After-between-g g) →
    let a = c.args in
    Held a.s c.between-g.result
box_held g c =
    let a = c.args in
    let k = ends_granted a.s a.cells.now a.start a.end c.requires.0 in
    rw (c.between-g.ensures, c.place-u.ensures, c.place-v.ensures)
    (held a.s (place_of a.s a.start) (place_of a.s a.end) k.start_in k.end_in)

pub nodes-n-requires : goal.nodes-n-requires
nodes-n-requires g c = (ends_granted c.args.s c.args.cells.now c.args.start c.args.end c.requires.0).sized

pub place-u-requires : goal.place-u-requires
place-u-requires g c = (ends_granted c.args.s c.args.cells.now c.args.start c.args.end c.requires.0).sized

pub place-v-requires : goal.place-v-requires
place-v-requires g c = (ends_granted c.args.s c.args.cells.now c.args.start c.args.end c.requires.0).sized

pub between-g-requires : goal.between-g-requires
between-g-requires g c =
    let k = ends_granted c.args.s c.args.cells.now c.args.start c.args.end c.requires.0 in
    let a = c.args in
    rw (c.place-u.ensures, c.place-v.ensures)
    (in_largest a.s (place_of a.s a.start) k.sized k.start_in, in_largest a.s (place_of a.s a.end) k.sized k.end_in)

pub layers-requires : goal.layers-requires
layers-requires g c = (
  search rules,
  (
    record { sized = (ends_granted c.args.s c.args.cells.now c.args.start c.args.end c.requires.0).sized; whole = drawn_whole g (goal.at.layers-requires g c).After-nodes-n; held = box_held g (goal.at.layers-requires g c).After-between-g },
    omega arith,
  ),
)

pub returns : goal.returns
returns g c =
    let a = c.args in
    let e = picture_is (map_of a.s a.cells.now) a.start a.end c.place-u.result c.place-v.result c.between-g.result
    (take c.nodes-n.result c.draw.new.drawn)
    c.place-u.ensures c.place-v.ensures c.between-g.ensures (drawn_is g (goal.at.returns g c).After-nodes-n) in
    added_as e (added_then c.say_ends.ensures c.layers.ensures)
