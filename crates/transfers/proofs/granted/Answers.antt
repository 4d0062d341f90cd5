-- `transfers::granted` meets its contract: the nodes written are those of the route. Assumes nothing.
use mathlib.Core.Path.{◌≡◌, refl, sym, ap, ◌∙◌}
use mathlib.Core.List.{List}
use Prim.Native.Nat.{ℕ, ◌+◌, ◌≤◌}
use native.Mathlib.Omega.{arith}
use Rattle.std.proofs.Common.{rules}
use lib.ListN.{length, get_or, replicate, take}
use lib.Seq.{length-take-le}
use Rattle.std.proofs.lemmas.List.{get_or-take}
use Rattle.mesh.specs.Mesh.{place_of}
use Rattle.mesh.specs.Cells.{map_of}
use Rattle.paths.specs.Offered.{route}
use Rattle.text.proofs.Adding.{added_as}
use Rattle.transfers.proofs.Judged.{short, route_at, granted_same}
use Rattle.transfers.proofs.granted.Given.{Over}
use Rattle.transfers.proofs.granted.Goals as goal
use Rattle.transfers.proofs.granted.Goals.{After-route}

-- no route has more than 45 hops, so that its nodes are in front
few : (g : Over) (c : After-route g) → c.args.h ≤ 45
few g c =
    let a = c.args in
    omega (arith, c.requires.1, short a.s a.cells.now a.start a.end c.requires.0)

in_front : (g : Over) (c : After-route g) → length (take (c.args.h + 1) c.route.new.out) ≡ c.args.h + 1
in_front g c = length-take-le (c.args.h + 1) c.route.new.out (omega (arith, few g c, c.route.auto.out))

pub overflow_add-nodes : goal.overflow_add-nodes
overflow_add-nodes g c = omega (arith, few g (goal.at.overflow_add-nodes g c).After-route)

pub slice_bounds-nodes-end : goal.slice_bounds-nodes-end
slice_bounds-nodes-end g c = omega (arith, few g (goal.at.slice_bounds-nodes-end g c).After-route, c.route.auto.out)

pub slice_bounds-say_granted-end : goal.slice_bounds-say_granted-end
slice_bounds-say_granted-end g c = sym (in_front g (goal.at.slice_bounds-say_granted-end g c).After-route)

pub say_granted-requires : goal.say_granted-requires
say_granted-requires g c =
    let known = (goal.at.say_granted-requires g c).After-route in
    (search rules, (in_front g known, few g known, omega (arith, c.requires.2)))

pub returns : goal.returns
returns g c =
    let a = c.args in
    let same = granted_same a.h (take (a.h + 1) c.route.new.out) (route (map_of a.s a.cells.now) (place_of a.s a.end) (place_of a.s a.start))
    (λ i l.
    get_or-take (a.h + 1) c.route.new.out i 0 l
    ∙ ap (λ (x : List ℕ). get_or x i 0) c.route.ensures.out_after
    ∙ route_at a.s a.cells.now a.start a.end c.requires.0 (replicate 46 0) refl i (omega (arith, c.requires.1))) in
    added_as same c.say_granted.ensures
