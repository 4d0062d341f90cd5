-- `trails::spread::write_reached` meets its contract: all bytes are 0, then the box's, and last the end's. Assumes nothing.
use mathlib.Core.Path.{◌≡◌, sym, ap, ◌∙◌, subst}
use mathlib.Core.Bool.{not, ◌||◌}
use mathlib.Core.List.{◌++◌}
use Prim.Native.Nat.{ℕ, ◌+◌}
use native.Mathlib.Omega.{arith}
use lib.ListN.{set, drop}
use lib.Dec.{eqb}
use Rattle.mesh.specs.Tools.{bit}
use Rattle.mesh.specs.Mesh.{nodes}
use Rattle.mesh.specs.Fill.{Filled}
use Rattle.mesh.proofs.Fill.{cleared}
use Rattle.maps.specs.Shelf.{map_on}
use Rattle.paths.specs.Differences.{hops}
use Rattle.paths.specs.Paths.{leads}
use Rattle.rows.specs.Box.{between, far}
use Rattle.sweeps.specs.Sweep.{ways_of, WaysTo}
use Rattle.sweeps.proofs.Runs.{held}
use Rattle.sweeps.proofs.Seen.{ways_le}
use Rattle.sweeps.proofs.Forward.{behind, from_start}
use Rattle.sweeps.specs.declared.Ways.{Ways}
use Rattle.rows.specs.declared.Between.{Between}
use Rattle.trails.specs.Spread.{Spread}
use Rattle.trails.proofs.Spreading.{end_ways, reached_written_lem}
use Rattle.trails.proofs.spread.write_reached.Goals as goal
use Rattle.trails.proofs.spread.write_reached.Goals.{After-fill, After-leads_on, After-spread-w, Start}

-- the ways into the end, and what is shown, are those of the box from the start
ways : (c : After-spread-w) → let s = c in c.spread-w.result ≡ ways_of (behind (map_on c.args.shelf.now) c.args.p c.args.e c.requires.0.start_in c.requires.0.end_in) (far (between s.args.p s.args.e))
ways c =
    let s = c in
    subst (λ (g : Between). WaysTo (map_on c.args.shelf.now) g (far g) c.spread-w.result) c.between.ensures c.spread-w.ensures.0
    (behind (map_on c.args.shelf.now) c.args.p c.args.e c.requires.0.start_in c.requires.0.end_in) (from_start (map_on c.args.shelf.now) s.args.p s.args.e s.requires.0.start_in s.requires.0.end_in s.requires.0.end_may)

shown : (c : After-spread-w) →
    let s = c in
    let g = between s.args.p s.args.e in
    Spread (map_on c.args.shelf.now) g (g.z.steps + 1) (c.fill.new.self ++ drop c.nodes.result c.args.out.now) c.spread-w.new.bytes
shown c =
    let s = c in
    subst (λ (g : Between). Spread (map_on c.args.shelf.now) g (g.z.steps + 1) (c.fill.new.self ++ drop c.nodes.result c.args.out.now) c.spread-w.new.bytes) c.between.ensures c.spread-w.ensures.1

blank : (c : After-fill) → let a = c.args in Filled (λ i. i) (λ i. 0) a.out.now (c.fill.new.self ++ drop c.nodes.result a.out.now) (nodes a.shelf.now.sizes)
blank c =
    let a = c.args in
    subst (Filled (λ i. i) (λ i. 0) a.out.now (c.fill.new.self ++ drop c.nodes.result a.out.now)) c.nodes.ensures.0
    (cleared a.out.now c.fill.new.self c.nodes.result (omega (arith, c.requires.1)) (c.fill.ensures.after (λ y e. e)))

asked : (h h' : ℕ) (w : Ways) → h ≡ h' → (eqb h 0 || not (eqb (w.x + w.y + w.z) 0)) ≡ (eqb h' 0 || not (eqb (w.x + w.y + w.z) 0))
asked h h' w e = rw e

-- the end's byte
told : (c : After-leads_on) →
    let s = c in
    c.leads_on.result ≡ leads (map_on c.args.shelf.now) s.args.e s.args.p s.args.e
told c =
    let w = c in
    let s = c in
    c.leads_on.ensures
    ∙ asked c.hops.result (hops s.args.p s.args.e) w.spread-w.result c.hops.ensures.0
    ∙ sym (end_ways (map_on c.args.shelf.now) s.args.p s.args.e s.requires.0.start_in s.requires.0.end_in s.requires.0.end_may w.spread-w.result (subst (λ (g : Between). WaysTo (map_on c.args.shelf.now) g (far g) c.spread-w.result) c.between.ensures c.spread-w.ensures.0
    (behind (map_on c.args.shelf.now) c.args.p c.args.e c.requires.0.start_in c.requires.0.end_in) (from_start (map_on c.args.shelf.now) s.args.p s.args.e s.requires.0.start_in s.requires.0.end_in s.requires.0.end_may)))

pub spread-w-requires : goal.spread-w-requires
spread-w-requires c =
    let a = c.args in
    let p = c.requires.0 in (
      rw c.between.ensures (held a.shelf.now.sizes a.p a.e p.start_in p.end_in),
      omega (arith, (blank (goal.at.spread-w-requires c).After-fill).size, c.requires.1),
      (blank (goal.at.spread-w-requires c).After-fill).at,
    )

pub leads_on-requires : goal.leads_on-requires
leads_on-requires c =
    ways_le c.spread-w.result (behind (map_on c.args.shelf.now) c.args.p c.args.e c.requires.0.start_in c.requires.0.end_in) (far (between c.args.p c.args.e)) (ways (goal.at.leads_on-requires c).After-spread-w)

pub returns : goal.returns
returns c =
    ap (λ (k : ℕ). set c.spread-w.new.bytes k (bit c.leads_on.result)) c.number.ensures.0
    ∙ reached_written_lem (map_on c.args.shelf.now) c.args.p c.args.e c.requires.0.start_in c.requires.0.end_in c.requires.0.end_may
    c.args.out.now (c.fill.new.self ++ drop c.nodes.result c.args.out.now) c.spread-w.new.bytes c.requires.1 (blank (goal.at.returns c).After-fill) (shown (goal.at.returns c).After-spread-w)
    (bit c.leads_on.result) (ap bit (told (goal.at.returns c).After-leads_on))
