-- What the printed rounds are. `talk_promise` of proofs/ shows it. Assumes nothing.
use Rattle.std.specs.Prelude.{◌≢◌, ◌≡◌, ℕ, ◌+◌, ◌<◌, ◌≤◌}
use Rattle.mesh.specs.Cells.{Map}
use Rattle.rules.specs.Marks.{useless, cant_reach}
use Rattle.talk.specs.Sound.{fresh}
use Rattle.talk.specs.Rounds.{Later, FullRounds}
use Rattle.talk.specs.Promise.{count_refusal, count_of, Settled}
use Rattle.counts.specs.Counts.{marked_count}
use Rattle.rounds.specs.Rounds.{lossy_rounds, after_rounds}
use Rattle.rounds.specs.Figures.{outstanding_after, marks_after, longest, settled_at}

pub record TalkPromise (m : Map) (o : ℕ) : Type 0 where
  -- whatever becomes of the words, the state after r rounds is one that calls on the fresh state lead to: so `Promise` is about it;
  pub later : (r : ℕ) → Later m.sizes o (fresh m o) (after_rounds m o r).state
  -- after those with loss, the rounds are full ones;
  pub full : (n r : ℕ) → lossy_rounds ≤ r → FullRounds m o (after_rounds m o (r + n)).state n (after_rounds m o r).state
  -- the number printed is the one that the call returns;
  pub exact : (r : ℕ) → let s = (after_rounds m o r).state in (count_refusal m.sizes o s ≡ 0) × (count_of m.sizes o s ≡ outstanding_after m o r)
  -- in the last round that is printed the nodes are settled, and in none before it.
  pub settled : Settled m o (after_rounds m o (settled_at m o)).state
  pub first : (r : ℕ) → r < settled_at m o → outstanding_after m o r ≢ 0
  pub soon : settled_at m o ≤ longest m.sizes
  -- the marks then held are those of the rules: the two figures of the report, added
  pub marks : marks_after m o (settled_at m o) ≡ marked_count m o useless + marked_count m o cant_reach
