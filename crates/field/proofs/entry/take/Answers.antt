-- `field::entry::take` meets its contract: the two stores of a word that is granted. Assumes nothing.
use native.Mathlib.Omega.{arith}
use lib.ListN.{length-set}
use Rattle.mesh.proofs.Numbers.{nodes_le}
use Rattle.field.proofs.Taken.{Numbers, hear_numbers, word_low, taken}
use Rattle.field.proofs.entry.take.Goals as goal
use Rattle.field.proofs.entry.take.Goals.{Start}

-- what the call that is granted says of its numbers
given : (s : Start) → let a = s.args in Numbers a.s a.state.now a.o a.k a.j a.word
given s = let a = s.args in hear_numbers a.s a.o a.k a.j a.word a.state.now s.requires

pub overflow_mul-own : goal.overflow_mul-own
overflow_mul-own c = let g = given (goal.at.overflow_mul-own c).Start in omega (arith, nodes_le c.args.s g.whole.sized)

pub overflow_add-at : goal.overflow_add-at
overflow_add-at c = let g = given (goal.at.overflow_add-at c).Start in omega (arith, nodes_le c.args.s g.whole.sized)

pub overflow_add-at-2 : goal.overflow_add-at-2
overflow_add-at-2 c = let g = given (goal.at.overflow_add-at-2 c).Start in omega (arith, nodes_le c.args.s g.whole.sized)

pub bounds-state-at : goal.bounds-state-at
bounds-state-at c = let g = given (goal.at.bounds-state-at c).Start in omega (arith, g.whole.long)

pub overflow_cast-state : goal.overflow_cast-state
overflow_cast-state c = let g = given (goal.at.overflow_cast-state c).Start in omega (arith, word_low c.args.word g.word)

pub bounds-state-at-2 : goal.bounds-state-at-2
bounds-state-at-2 c = let g = given (goal.at.bounds-state-at-2 c).Start in omega (arith, g.whole.long)

pub rule_byte-requires : goal.rule_byte-requires
rule_byte-requires c =
    let g = given (goal.at.rule_byte-requires c).Start in (
      g.whole.sized,
      g.turned,
      record {
        low = omega (arith, nodes_le c.args.s g.whole.sized);
        room = simp length-set (omega (arith, g.whole.long));
      },
    )

pub bounds-state-own : goal.bounds-state-own
bounds-state-own c = let g = given (goal.at.bounds-state-own c).Start in simp length-set (omega (arith, g.whole.long))

pub returns : goal.returns
returns c =
    let a = c.args in
    taken a.s a.o a.k a.j a.word a.state.now c.requires c.rule_byte.result c.rule_byte.ensures
