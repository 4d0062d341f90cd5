-- `making::put_fresh` meets its contract: so many rows are done, and in the end all nodes are. Assumes nothing.
use mathlib.Core.Path.{◌≡◌, subst}
use Prim.Native.Nat.{ℕ, ◌*◌, ◌≤◌}
use native.Mathlib.Omega.{arith}
use Rattle.mesh.proofs.Numbers.{rows_le}
use Rattle.maps.specs.Shelf.{map_on}
use Rattle.making.specs.Making.{Fresh}
use Rattle.making.proofs.Made.{fresh_all}
use Rattle.making.proofs.put_fresh.Goals as goal
use Rattle.making.proofs.put_fresh.Goals.{Start}

few : (c : Start) → let s = c.args.shelf.now.sizes in s.h * s.d ≤ 256
few c = rows_le c.args.shelf.now.sizes c.args.shelf.now.sized

pub overflow_mul-row-end : goal.overflow_mul-row-end
overflow_mul-row-end c = omega (arith, few (goal.at.overflow_mul-row-end c).Start)

pub returns : goal.returns
returns c =
    let l = c.loop-row in
    let a = c.args in
    let s = a.shelf.now.sizes in
    let m = map_on a.shelf.now in
    let e : l.row ≡ s.h * s.d = omega arith in
    fresh_all m a.o l.state (subst (λ (r : ℕ). Fresh m a.o (s.w * r) l.state) e l.invariant)
