-- `picture::drawing::picture_into` meets its contract: the symbols of the map, drawn over the box between its ends. Assumes nothing.
use mathlib.Core.Path.{◌≡◌, ap, ◌∙◌}
use native.Mathlib.Omega.{arith}
use lib.ListN.{length, take}
use Rattle.mesh.specs.Mesh.{nodes, place_of}
use Rattle.mesh.specs.Cells.{map_of}
use Rattle.rows.specs.Box.{Held}
use Rattle.rows.proofs.Box.{in_largest}
use Rattle.sweeps.proofs.Runs.{held}
use Rattle.routes.proofs.Ends.{ends_granted}
use Rattle.text.proofs.Saying.{said_page, said_then, said_as}
use Rattle.picture.specs.Picture.{symbols}
use Rattle.picture.specs.Room.{ends_room, layers_room}
use Rattle.picture.proofs.Drawn.{symbols_length, drawn_taken, picture_is}
use Rattle.picture.proofs.drawing.picture_into.Goals as goal
use Rattle.picture.proofs.drawing.picture_into.Goals.{After-between-g, After-nodes-n}

-- the symbols, and the box
drawn_is : (c : After-nodes-n) →
    let a = c.args in
    take c.nodes-n.result c.draw.new.drawn ≡ symbols (map_of a.s a.cells.now) a.start a.end
drawn_is c =
    let a = c.args in
    drawn_taken (map_of a.s a.cells.now) a.start a.end c.nodes-n.result _ c.draw.new.drawn
    c.nodes-n.ensures.0 c.draw.ensures

drawn_whole : (c : After-nodes-n) →
    let a = c.args in
    length (take c.nodes-n.result c.draw.new.drawn) ≡ nodes a.s
drawn_whole c =
    let a = c.args in
    ap length (drawn_is c) ∙ symbols_length (map_of a.s a.cells.now) a.start a.end

box_held : (c : After-between-g) →
    let a = c.args in
    Held a.s c.between-g.result
box_held c =
    let a = c.args in
    let k = ends_granted a.s a.cells.now a.start a.end c.requires.0 in
    rw (c.between-g.ensures, c.place-u.ensures, c.place-v.ensures)
    (held a.s (place_of a.s a.start) (place_of a.s a.end) k.start_in k.end_in)

pub nodes-n-requires : goal.nodes-n-requires
nodes-n-requires c = (ends_granted c.args.s c.args.cells.now c.args.start c.args.end c.requires.0).sized

pub place-u-requires : goal.place-u-requires
place-u-requires c = (ends_granted c.args.s c.args.cells.now c.args.start c.args.end c.requires.0).sized

pub place-v-requires : goal.place-v-requires
place-v-requires c = (ends_granted c.args.s c.args.cells.now c.args.start c.args.end c.requires.0).sized

pub between-g-requires : goal.between-g-requires
between-g-requires c =
    let k = ends_granted c.args.s c.args.cells.now c.args.start c.args.end c.requires.0 in
    let a = c.args in
    rw (c.place-u.ensures, c.place-v.ensures)
    (in_largest a.s (place_of a.s a.start) k.sized k.start_in, in_largest a.s (place_of a.s a.end) k.sized k.end_in)

pub layers_into-requires : goal.layers_into-requires
layers_into-requires c =
    let head = said_page c.blank-page.ensures c.say_ends.ensures c.text.ensures c.say-head.ensures in (
      record {
        sized = (ends_granted c.args.s c.args.cells.now c.args.start c.args.end c.requires.0).sized;
        whole = drawn_whole (goal.at.layers_into-requires c).After-nodes-n;
        held = box_held (goal.at.layers_into-requires c).After-between-g;
      },
      omega (arith, c.requires.1, c.say-head.auto.out, head.1),
    )

pub returns : goal.returns
returns c =
    let a = c.args in
    let e = picture_is (map_of a.s a.cells.now) a.start a.end c.place-u.result c.place-v.result c.between-g.result
    (take c.nodes-n.result c.draw.new.drawn)
    c.place-u.ensures c.place-v.ensures c.between-g.ensures (drawn_is (goal.at.returns c).After-nodes-n) in
    let all = said_then ends_room layers_room (omega (arith, c.requires.1))
    (said_page c.blank-page.ensures c.say_ends.ensures c.text.ensures c.say-head.ensures) c.layers_into.ensures in
    (said_as e all.0, omega (arith, all.1))
