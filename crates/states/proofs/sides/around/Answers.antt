-- `states::sides::around` meets its contract: what is read on an axis, up and down, is what stands in its two directions. Assumes nothing.
use mathlib.Core.Path.{sym, ◌∙◌}
use Prim.Native.Nat.{◌*◌}
use Rattle.mesh.specs.Mesh.{X, Y, Z}
use Rattle.states.specs.Six.{first_byte, around}
use Rattle.states.proofs.Packed.{six_is}
use Rattle.states.proofs.Around.{above, below, around_up, around_down, around_byte}
use Rattle.states.proofs.sides.around.Goals as goal

pub side-requires : goal.side-requires
side-requires c =
    let a = c.args in
    above a.s a.bytes.now a.per c.requires.0 c.requires.1 c.requires.2 a.p c.requires.3 a.k c.requires.4 X

pub side-requires-2 : goal.side-requires-2
side-requires-2 c =
    let a = c.args in
    below a.s a.bytes.now a.per c.requires.0 c.requires.1 c.requires.2 a.p c.requires.3 a.k c.requires.4 X

pub side-requires-3 : goal.side-requires-3
side-requires-3 c =
    let a = c.args in
    above a.s a.bytes.now a.per c.requires.0 c.requires.1 c.requires.2 a.p c.requires.3 a.k c.requires.4 Y

pub side-requires-4 : goal.side-requires-4
side-requires-4 c =
    let a = c.args in
    below a.s a.bytes.now a.per c.requires.0 c.requires.1 c.requires.2 a.p c.requires.3 a.k c.requires.4 Y

pub side-requires-5 : goal.side-requires-5
side-requires-5 c =
    let a = c.args in
    above a.s a.bytes.now a.per c.requires.0 c.requires.1 c.requires.2 a.p c.requires.3 a.k c.requires.4 Z

pub side-requires-6 : goal.side-requires-6
side-requires-6 c =
    let a = c.args in
    below a.s a.bytes.now a.per c.requires.0 c.requires.1 c.requires.2 a.p c.requires.3 a.k c.requires.4 Z

pub returns : goal.returns
returns c =
    let a = c.args in
    let f = first_byte a.bytes.now a.per in
    let up = around_up a.s f c.requires.0 a.p c.requires.3 a.k c.requires.4 in
    let down = around_down a.s f c.requires.0 a.p c.requires.3 a.k c.requires.4 in (
      c.of.ensures
          ∙ (rw (
            c.side.ensures ∙ sym (up X),
            c.side-2.ensures ∙ sym (down X),
            c.side-3.ensures ∙ sym (up Y),
            c.side-4.ensures ∙ sym (down Y),
            c.side-5.ensures ∙ sym (up Z),
            c.side-6.ensures ∙ sym (down Z),
          ) (six_is (around a.s f a.k))),
      around_byte a.s f (λ i. (c.type_inv.bytes (a.per * i)).fits) a.k,
    )
