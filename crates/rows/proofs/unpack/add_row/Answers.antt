-- `rows::unpack::add_row` meets its contract. Assumes nothing.
use Prim.Native.Nat.{◌-◌}
use native.Mathlib.Omega.{arith}
use Rattle.rows.proofs.Unpacks.{eight_in, eight_room, both}
use Rattle.rows.proofs.unpack.add_row.Goals as goal

pub eight-x-requires : goal.eight-x-requires
eight-x-requires c =
    let a = c.args in
    let r = c.requires in
    let e = c.lowest-p.ensures in
    (omega arith, eight_in _ _ _ a.w 0 _ r.1 (omega arith) e, eight_room _ _ _ a.w 0 _ a.v r.1 r.2 (omega arith) e)

pub eight-y-requires : goal.eight-y-requires
eight-y-requires c =
    let a = c.args in
    let r = c.requires in
    let e = c.lowest-q.ensures in
    (omega arith, eight_in _ _ _ a.w (a.w - 8) _ r.1 (omega arith) e, eight_room _ _ _ a.w (a.w - 8) _ a.v r.1 r.2 (omega arith) e)

pub returns : goal.returns
returns c =
    let a = c.args in
    let r = c.requires in
    both a.out.now a.down a.from a.w a.bits a.v _ _ _ _ (omega arith) r.0 r.1 r.2 c.lowest-p.ensures c.lowest-q.ensures c.eight-x.ensures c.eight-y.ensures _ _
    c.put.ensures c.put-2.ensures
