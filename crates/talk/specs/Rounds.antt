-- 01, "The talking nodes": calls, stretches of calls, and full rounds. Assumes nothing.
use Rattle.std.specs.Prelude.{Bool, true, not, ◌&&◌, List, [], ◌∷◌, ◌++◌, ◌≡◌, ℕ, suc, T, eqb, length}
use Rattle.mesh.specs.Cells.{Map}
use Rattle.mesh.specs.Answers.{answer_no}
use Rattle.mesh.specs.declared.Sizes.{Sizes}
use Rattle.talk.specs.State.{pair, says}
use Rattle.talk.specs.Entries.{fresh_answer, fresh_out, hear_out}

-- A call on a state: listener, direction and word; a question, which changes nothing; or a fresh state made of these cells.
pub data Call : Type 0 where
  hearing : ℕ → ℕ → ℕ → Call
  asking : Call
  making : List ℕ → Call

-- the state after a call, granted or refused
abbrev pub after : Sizes → ℕ → List ℕ → Call → List ℕ
after S o s (hearing k j w) = hear_out S o k j w s
after S o s asking = s
after S o s (making cells) = fresh_out S cells o s

-- and after several, one after another
abbrev pub run : Sizes → ℕ → List ℕ → List Call → List ℕ
run S o s [] = s
run S o s (c ∷ cs) = run S o (after S o s c) cs

-- "a stretch of calls, none of which makes the state fresh again", from the state s on: one that is refused makes nothing fresh
abbrev pub keeps : Sizes → ℕ → List ℕ → Call → Bool
keeps S o s (hearing k j w) = true
keeps S o s asking = true
keeps S o s (making cells) = not (eqb (answer_no (fresh_answer S cells o (length s))) 0)

abbrev pub stretch : Sizes → ℕ → List ℕ → List Call → Bool
stretch S o s [] = true
stretch S o s (c ∷ cs) = keeps S o s c && stretch S o (after S o s c) cs

-- a stretch of calls leads from s to t
pub record Later (S : Sizes) (o : ℕ) (s t : List ℕ) : Type 0 where
  pub calls : List Call
  pub kept : T (stretch S o s calls)
  pub ends : t ≡ run S o s calls

-- the word that k's neighbour in direction j held after the calls of the round so far
abbrev pub held : Sizes → ℕ → List ℕ → List Call → ℕ → ℕ → ℕ
held S o s sofar k j = says S (run S o s sofar) k j

-- In the calls cs from s on, k hears from direction j "a word .. that the speaker held at some moment since the round began".
pub record Told (S : Sizes) (o : ℕ) (s : List ℕ) (cs : List Call) (k j : ℕ) : Type 0 where
  pub before : List Call
  pub between : List Call
  pub since : List Call
  pub parts : cs ≡ before ++ between ++ hearing k j (held S o s before k j) ∷ since

-- "A full round is a stretch of calls .. in which, for each such pair, a word is heard": cs, from the state s on
pub record FullRound (m : Map) (o : ℕ) (s : List ℕ) (cs : List Call) : Type 0 where
  pub kept : T (stretch m.sizes o s cs)
  pub each : (k j : ℕ) → T (pair m k j) → Told m.sizes o s cs k j

-- n full rounds, one after another, lead from s to t
pub data FullRounds (m : Map) (o : ℕ) (t : List ℕ) : ℕ → List ℕ → Type 0 where
  none : FullRounds m o t 0 t
  more : {n : ℕ} {s : List ℕ} (cs : List Call) → FullRound m o s cs → FullRounds m o t n (run m.sizes o s cs) → FullRounds m o t (suc n) s
