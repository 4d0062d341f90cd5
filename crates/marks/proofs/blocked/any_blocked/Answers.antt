-- `marks::blocked::any_blocked` meets its contract: the stretches that it hands on hold the neighbours ahead. Assumes nothing.
use mathlib.Core.Path.{◌≡◌}
use Prim.Native.Nat.{ℕ, ◌/◌, ◌%◌}
use native.Mathlib.Omega.{arith}
use Rattle.mesh.specs.Tools.{bit, one}
use Rattle.mesh.proofs.Bits.{bit_of}
use Rattle.maps.specs.Shelf.{map_on}
use Rattle.marks.proofs.Stretches.{first_x, first_y, first_z, all_fit, none_stuck}
use Rattle.marks.proofs.blocked.any_blocked.Goals as goal
use Rattle.marks.proofs.blocked.any_blocked.Goals.{After-ahead_z-r}

-- the parity of a number is the bit that the definitions ask
odd : (n : ℕ) → n % 2 ≡ bit (one (n % 2))
odd n = bit_of (n % 2) (omega arith)

-- where the three stretches begin
begun : (c : After-ahead_z-r) → let s = c.args.shelf.now.sizes in let o = c.args.o in
    (c.number-p.result ≡ first_x s o) × (c.number-q.result ≡ first_y s o) × (c.ahead_z-r.result ≡ first_z s o)
begun c =
    let a = c.args in
    let z = c.on_z-z.ensures.0 in
    let q : c.number-q.result ≡ first_y a.shelf.now.sizes a.o = rw (← odd a.o, ← odd (a.o / 2), ← odd (a.o / 4), ← z) c.number-q.ensures.0 in (
      rw (← odd a.o, ← odd (a.o / 2), ← odd (a.o / 4), ← z) c.number-p.ensures.0,
      q,
      rw (← q, ← odd a.o, ← odd (a.o / 2), ← odd (a.o / 4), ← z) c.ahead_z-r.ensures,
    )

pub meet-requires : goal.meet-requires
meet-requires c =
    let s = c.args.shelf.now in
    let (x, y, z) = all_fit s.sizes c.args.o s.sized in
    let (p, q, r) = begun (goal.at.meet-requires c).After-ahead_z-r in
    let n = c.inner.ensures in
    (omega (arith, s.whole), omega (arith, s.whole), omega (arith, s.whole))

pub returns : goal.returns
returns c t =
    let a = c.args in
    let (p, q, r) = begun (goal.at.returns c).After-ahead_z-r in
    none_stuck (map_on a.shelf.now) a.o a.shelf.now.sized (rw (← r, ← p, ← q, ← c.inner.ensures) (c.meet.ensures t))
