-- `routes::entries::reached` meets its contract: what is summed is 0 or 1. Assumes nothing.
use native.Mathlib.Omega.{arith}
use Rattle.maps.specs.Shelf.{map_on}
use Rattle.trails.proofs.Spreading.{front_bits}
use Rattle.routes.proofs.entries.reached.Goals as goal

pub total-requires : goal.total-requires
total-requires c =
    let w = c.write_reached in
    let n = c.nodes-n.ensures in
    let bits = front_bits (map_on c.in_ok-shelf.shelf) c.in_ok-start.start c.in_ok-start.end c.args.out.now w.new.out w.ensures in
    (omega (arith, w.auto.out, c.if-out-n.false), n.1, λ k h. bits k (omega (arith, n.0)))
