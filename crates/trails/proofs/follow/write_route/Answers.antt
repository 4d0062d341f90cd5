-- `trails::follow::write_route` meets its contract: the table is that of the box from the end, and the way through it is the route.
-- Assumes nothing.
use mathlib.Core.Path.{◌≡◌, sym, ap, ◌∙◌, subst}
use mathlib.Core.Bool.{not, ◌||◌}
use mathlib.Core.List.{List}
use Prim.Native.Nat.{ℕ, ◌+◌, ◌≤◌}
use lib.ListN.{length}
use lib.Dec.{eqb}
use Rattle.mesh.specs.Mesh.{number}
use Rattle.mesh.specs.Fill.{Filled}
use Rattle.mesh.proofs.Tests.{holds_true}
use Rattle.mesh.specs.declared.Sizes.{Sizes}
use Rattle.maps.specs.Shelf.{map_on}
use Rattle.paths.specs.Differences.{hops}
use Rattle.paths.specs.Paths.{leads}
use Rattle.rows.specs.Box.{between, reach, far, Held}
use Rattle.sweeps.specs.Sweep.{WaysTo, ways_of}
use Rattle.sweeps.proofs.Runs.{held}
use Rattle.sweeps.proofs.Seen.{ways_le}
use Rattle.sweeps.proofs.Backward.{ahead, from_end}
use Rattle.sweeps.specs.declared.Ways.{Ways}
use Rattle.rows.specs.declared.Between.{Between}
use Rattle.trails.specs.Table.{Table, trail}
use Rattle.trails.proofs.Trails.{granted_is}
use Rattle.trails.proofs.Routing.{routed_10, routed_3, routed_0, route_written_lem}
use Rattle.trails.proofs.follow.write_route.Goals as goal
use Rattle.trails.proofs.follow.write_route.Goals.{After-lay_all-w, After-leads_on, Start}

-- the box from the end
box_held : (c : Start) → Held c.args.shelf.now.sizes (between c.args.e c.args.p)
box_held c = held c.args.shelf.now.sizes c.args.e c.args.p c.requires.end_in c.requires.start_in

-- the table has every layer, and the ways from the start are what is seen
box_is : (c : After-lay_all-w) → c.between-g.result ≡ between c.args.e c.args.p
box_is c = c.between-g.ensures

full : (c : After-lay_all-w) →
    let s = c in
    Table (map_on c.args.shelf.now) (between c.args.e c.args.p) ((between c.args.e c.args.p).z.steps + 1) c.lay_all-w.new.table
full c =
    let s = c in
    subst (λ (g : Between). Table (map_on c.args.shelf.now) g (g.z.steps + 1) c.lay_all-w.new.table) (box_is c) c.lay_all-w.ensures.1

ways : (c : After-lay_all-w) →
    let s = c in
    c.lay_all-w.result ≡ ways_of (ahead (map_on c.args.shelf.now) s.args.p s.args.e s.requires.start_in s.requires.end_in) (far (between c.args.e c.args.p))
ways c =
    let s = c in
    subst (λ (g : Between). WaysTo (map_on c.args.shelf.now) g (far g) c.lay_all-w.result) (box_is c) c.lay_all-w.ensures.0
    (ahead (map_on c.args.shelf.now) s.args.p s.args.e s.requires.start_in s.requires.end_in)
    (from_end (map_on c.args.shelf.now) s.args.p s.args.e s.requires.start_in s.requires.end_in s.requires.end_may)

-- what `leads_on` answers is whether there is a path
asked : (h h' : ℕ) (w : Ways) → h ≡ h' → (eqb h 0 || not (eqb (w.x + w.y + w.z) 0)) ≡ (eqb h' 0 || not (eqb (w.x + w.y + w.z) 0))
asked h h' w e = rw e

told : (c : After-leads_on) →
    let s = c in
    leads (map_on c.args.shelf.now) s.args.e s.args.p s.args.e ≡ c.leads_on.result
told c =
    let w = c in
    let h = c in
    let s = c in
    granted_is (map_on c.args.shelf.now) s.args.p s.args.e s.requires.start_in s.requires.end_in s.requires.end_may w.lay_all-w.result (subst (λ (g : Between). WaysTo (map_on c.args.shelf.now) g (far g) c.lay_all-w.result) c.between-g.ensures c.lay_all-w.ensures.0
    (ahead (map_on c.args.shelf.now) s.args.p s.args.e s.requires.start_in s.requires.end_in)
    (from_end (map_on c.args.shelf.now) s.args.p s.args.e s.requires.start_in s.requires.end_in s.requires.end_may))
    ∙ sym (c.leads_on.ensures ∙ asked _ _ w.lay_all-w.result h.hops-h.ensures.0)

filled_by : (S : Sizes) (table old new : List ℕ) (g g' : Between) (n n' : ℕ) → g ≡ g' → n ≡ n'
    → Filled (λ i. i) (λ i. number S (reach g (trail g table i))) old new n
    → Filled (λ i. i) (λ i. number S (reach g' (trail g' table i))) old new n'
filled_by S table old new g g' n n' e f F = rw (← e, ← f) F

pub lay_all-w-requires : goal.lay_all-w-requires
lay_all-w-requires c =
    rw c.between-g.ensures (box_held (goal.at.lay_all-w-requires c).Start, c.blank-table.ensures)

pub leads_on-requires : goal.leads_on-requires
leads_on-requires c =
    ways_le c.lay_all-w.result (ahead (map_on c.args.shelf.now) c.args.p c.args.e c.requires.start_in c.requires.end_in) (far (between c.args.e c.args.p)) (ways (goal.at.leads_on-requires c).After-lay_all-w)

pub returns-then-not-leads_on : goal.returns-then-not-leads_on
returns-then-not-leads_on c =
    routed_10 (map_on c.args.shelf.now) c.args.p c.args.e c.args.out.now (told (goal.at.returns-then-not-leads_on c).After-leads_on ∙ c.if-not-leads_on.true)

pub returns-then-out-n : goal.returns-then-out-n
returns-then-out-n c =
    routed_3 (map_on c.args.shelf.now) c.args.p c.args.e c.args.out.now (told (goal.at.returns-then-out-n c).After-leads_on ∙ c.if-not-leads_on.false) (rw c.hops-h.ensures.0 at c.if-out-n.true)

pub follow-requires : goal.follow-requires
follow-requires c =
    rw (box_is (goal.at.follow-requires c).After-lay_all-w) (c.args.shelf.now.sized, box_held (goal.at.follow-requires c).Start, c.lay_all-w.auto.table ∙ c.blank-table.ensures, c.if-out-n.false)

pub returns : goal.returns
returns c =
    let l = told (goal.at.returns c).After-leads_on ∙ c.if-not-leads_on.false in
    let n : c.hops-h.result + 1 ≡ hops c.args.p c.args.e + 1 = ap (λ (j : ℕ). j + 1) c.hops-h.ensures.0 in
    let room : hops c.args.p c.args.e + 1 ≤ length c.args.out.now = rw c.hops-h.ensures.0 at c.if-out-n.false in
    rw n (routed_0 (map_on c.args.shelf.now) c.args.p c.args.e c.args.out.now l room c.follow.new.out
    (route_written_lem (map_on c.args.shelf.now) c.args.p c.args.e c.requires.start_in c.requires.end_in c.requires.end_may c.lay_all-w.new.table (full (goal.at.returns c).After-lay_all-w)
    c.args.out.now c.follow.new.out ((holds_true (leads (map_on c.args.shelf.now) c.args.e c.args.p c.args.e)).1 l) room
    (filled_by c.args.shelf.now.sizes c.lay_all-w.new.table c.args.out.now c.follow.new.out c.between-g.result (between c.args.e c.args.p) _ _
    c.between-g.ensures n c.follow.ensures)))
