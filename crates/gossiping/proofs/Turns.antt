-- The loop over the rounds: what holds after r of them, at the start, from one to the next and at the end. Assumes nothing.
use mathlib.Core.Path.{◌≡◌, sym, ap, ap₂, ◌∙◌, subst⁻¹}
use mathlib.Core.Logic.{◌≢◌}
use mathlib.Core.List.{List, ◌++◌}
use Prim.Native.Nat.{ℕ, suc, ◌+◌, ◌-◌, ◌*◌, ◌<◌, ◌≤◌}
use native.Mathlib.Decide.{ℕ_discrete}
use native.Mathlib.Numerals.{add-one}
use native.Mathlib.Omega.{arith}
use lib.ListN.{replicate}
use Rattle.mesh.specs.Mesh.{InRange}
use Rattle.mesh.specs.Cells.{Map}
use Rattle.mesh.specs.declared.Sizes.{Sizes}
use Rattle.talk.specs.Sound.{fresh}
use Rattle.talk.specs.Hear.{outstanding}
use Rattle.talk.proofs.Same.{outstanding_in}
use Rattle.text.specs.Text.{Added}
use Rattle.text.proofs.Adding.{added_none, added_as, added_turn}
use Rattle.rounds.specs.Chance.{seed}
use Rattle.rounds.specs.Links.{links, Net, net, Going}
use Rattle.rounds.specs.Rounds.{one_round, after_rounds}
use Rattle.rounds.specs.Figures.{marks_held, outstanding_after, marks_after, settled_from, longest, settled_at}
use Rattle.gossiping.specs.Text.{round_line, round_lines}
use Rattle.report.specs.Room.{line_room}
use Rattle.rounds.proofs.Led.{going}
use Rattle.rounds.proofs.Settled.{settled_here, settled_on, sound_at, last_settled}

-- after r rounds of which all but the last is told on a page that held `old`
pub record Turn (m : Map) (o : ℕ) (old state way page : List ℕ) (drawn r : ℕ) : Type 0 where
  pub is : net state way drawn ≡ after_rounds m o r
  pub told : Added old (round_lines m o r) (line_room * r) page
  pub few : r ≤ longest m.sizes
  pub same : settled_from m o (longest m.sizes - r) r ≡ settled_at m o

pub turn_first : (m : Map) (o : ℕ) (old state way : List ℕ) → state ≡ fresh m o → way ≡ replicate (links m.sizes) 0
    → Turn m o old state way old seed 0
unfolding after_rounds round_lines
turn_first m o old state way e f =
    let all : longest m.sizes - 0 ≡ longest m.sizes = omega arith in
    record {
      is = ap₂ (λ (s w : List ℕ). net s w seed) e f;
      told = added_none old;
      few = omega arith;
      same = ap (λ (n : ℕ). settled_from m o n 0) all;
    }

module _ {m : Map} {o : ℕ} {old state way page : List ℕ} {drawn r : ℕ}
    (fit : InRange m.sizes) (o_le : o ≤ 7) (t : Turn m o old state way page drawn r) where
  abbrev S : Sizes
  S = m.sizes

  pub turn_going : Going S o (net state way drawn)
  turn_going = subst⁻¹ (Going S o) t.is (going m o fit o_le r)

  state_is : state ≡ (after_rounds m o r).state
  state_is = ap (λ (n : Net). n.state) t.is

  -- what the calls find in the state is what is told of the map
  found : outstanding S state ≡ outstanding_after m o r
  found = ap (outstanding S) state_is ∙ outstanding_in m o (after_rounds m o r).state (sound_at m o fit o_le r)

  more_lines : round_lines m o (r + 1) ≡ round_lines m o r ++ round_line r (outstanding_after m o r) (marks_after m o r)
  unfolding round_lines
  more_lines = rw add-one

  pub turn_told : {page' : List ℕ} → Added page (round_line r (outstanding S state) (marks_held S state)) line_room page'
      → Added old (round_lines m o (r + 1)) (line_room * (r + 1)) page'
  turn_told s = added_turn line_room r more_lines t.told (added_as (ap₂ (round_line r) found (ap (marks_held S) state_is)) s)

  -- with nothing left, this is the round that is printed last
  pub turn_last : outstanding S state ≡ 0 → r ≡ settled_at m o
  turn_last e = sym (settled_here m o (longest S - r) r (sym found ∙ e)) ∙ t.same

  -- with news left, there is a round to come
  pub turn_more : outstanding S state ≢ 0 → r < longest S
  turn_more h = elim (ℕ_discrete r (longest S)) [
    | yes e ↦ absurd (h (found ∙ ap (outstanding_after m o) e ∙ last_settled m o fit o_le))
    | no e ↦ omega (arith, t.few)
  ]

  pub turn_next : {state' way' page' : List ℕ} {drawn' : ℕ} → outstanding S state ≢ 0
      → net state' way' drawn' ≡ one_round S o r (net state way drawn)
      → Added page (round_line r (outstanding S state) (marks_held S state)) line_room page'
      → Turn m o old state' way' page' drawn' (r + 1)
  unfolding after_rounds
  turn_next h e s =
      let more : suc (longest S - suc r) ≡ longest S - r = omega (arith, turn_more h) in
      record {
        is = rw add-one (e ∙ ap (one_round S o r) t.is);
        told = turn_told s;
        few = omega (arith, turn_more h);
        same = rw add-one
            (sym (settled_on m o (longest S - suc r) r (λ z. h (found ∙ z)))
            ∙ ap (λ (k : ℕ). settled_from m o k r) more
            ∙ t.same);
      }
