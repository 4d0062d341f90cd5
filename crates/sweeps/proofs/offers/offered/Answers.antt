-- `sweeps::offers::offered` meets its contract: what is seen from the end (`from_end`) gives the ways, and the ways the set (`offered_is`).
-- Assumes nothing.
use mathlib.Core.Path.{◌≡◌, sym, ap, ◌∙◌, subst}
use Prim.Native.Nat.{ℕ, ◌<◌, ◌≤◌}
use native.Mathlib.Omega.{arith}
use lib.IntN.{ℤ}
use lib.Signed.{mag}
use mir.Syntax.{w32}
use mir.Val.{to_z, of_z}
use Rattle.mesh.specs.Cells.{Map}
use Rattle.mesh.proofs.Whole.{back}
use Rattle.maps.specs.Shelf.{map_on}
use Rattle.paths.specs.Differences.{wanted}
use Rattle.rows.specs.Box.{between, far}
use Rattle.sweeps.specs.Sweep.{WaysTo, ways_of, flag_of}
use Rattle.sweeps.proofs.Runs.{held}
use Rattle.sweeps.proofs.Seen.{ways_le}
use Rattle.sweeps.proofs.Backward.{ahead, from_end}
use Rattle.sweeps.proofs.Flags.{offered_is}
use Rattle.rows.specs.declared.Between.{Between}
use Rattle.sweeps.proofs.offers.offered.Goals as goal
use Rattle.sweeps.proofs.offers.offered.Goals.{After-ways-w}

-- a flag of a difference as the machine passes it on
sent : (n up seen : ℕ) (z d : ℤ) → n ≡ flag_of (wanted up (to_z w32 (of_z w32 z))) seen → (z ≡ d) × (mag z < 16) → n ≡ flag_of (wanted up d) seen
sent n up seen z d e h = e ∙ ap (λ (y : ℤ). flag_of (wanted up y) seen) (back z (omega arith) ∙ h.0)

-- the ways are those of what is seen from the end
told : (c : After-ways-w) →
    let s = c in
    c.ways-w.result
    ≡ ways_of (ahead (map_on s.args.shelf.now) s.args.p s.args.e s.requires.start_in s.requires.end_in) (far (between s.args.e s.args.p))
told c =
    let s = c in
    let m : Map = map_on s.args.shelf.now in
    subst (λ (g : Between). WaysTo m g (far g) c.ways-w.result) c.between.ensures c.ways-w.ensures
    (ahead m s.args.p s.args.e s.requires.start_in s.requires.end_in)
    (from_end m s.args.p s.args.e s.requires.start_in s.requires.end_in s.requires.end_may)

low : (c : After-ways-w) → let w = c.ways-w.result in (w.x ≤ 1) × (w.y ≤ 1) × (w.z ≤ 1)
low c =
    ways_le c.ways-w.result (ahead (map_on c.args.shelf.now) c.args.p c.args.e c.requires.start_in c.requires.end_in)
    (far (between c.args.e c.args.p)) (told c)

pub ways-w-requires : goal.ways-w-requires
ways-w-requires c =
    rw c.between.ensures (held c.args.shelf.now.sizes c.args.e c.args.p c.requires.end_in c.requires.start_in)

pub flag-requires : goal.flag-requires
flag-requires c = let d = c.difference in (omega arith, rw (back d.result (omega arith)) d.ensures.1, (low (goal.at.flag-requires c).After-ways-w).0)

pub flag-requires-2 : goal.flag-requires-2
flag-requires-2 c =
    let d = c.difference-2 in
    (omega arith, rw (back d.result (omega arith)) d.ensures.1, (low (goal.at.flag-requires-2 c).After-ways-w).1)

pub flag-requires-3 : goal.flag-requires-3
flag-requires-3 c =
    let d = c.difference-3 in
    (omega arith, rw (back d.result (omega arith)) d.ensures.1, (low (goal.at.flag-requires-3 c).After-ways-w).2)

pub returns : goal.returns
returns c =
    let w = c.ways-w.result in
    let m : Map = map_on c.args.shelf.now in
    rw (
      sent c.flag.result 0 w.x _ _ c.flag.ensures.0 c.difference.ensures,
      sent c.flag-2.result 2 w.y _ _ c.flag-2.ensures.0 c.difference-2.ensures,
      sent c.flag-3.result 4 w.z _ _ c.flag-3.ensures.0 c.difference-3.ensures,
      told (goal.at.returns c).After-ways-w,
    ) (sym (offered_is m c.args.p c.args.e c.requires.start_in c.requires.end_in c.requires.end_may))
