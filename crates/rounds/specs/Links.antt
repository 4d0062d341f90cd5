-- Words on their way over links that lose, repeat, delay and reorder them. Assumes nothing.
use Rattle.std.specs.Prelude.{List, ℕ, ◌*◌, ◌/◌, ◌%◌, ◌<◌, ◌≤◌, ◌≡◌, length, get_or, set}
use Rattle.mesh.specs.Mesh.{InRange, nodes}
use Rattle.mesh.specs.declared.Sizes.{Sizes}
use Rattle.talk.specs.State.{says}
use Rattle.talk.specs.Sound.{Sound}
use Rattle.talk.specs.Entries.{hear_out}
use Rattle.rounds.specs.Chance.{following, chosen, fate_of}
use Rattle.rounds.specs.declared.chance.Fate.{Fate}
use Rattle.rounds.specs.declared.chance.Fate.TheVariants.{Lost, Late, Twice, Once}

-- a link for each listener and direction: link l leads to node l / 6, from its neighbour in direction l % 6
abbrev pub links : Sizes → ℕ
links S = 6 * nodes S

-- how many the largest mesh has
abbrev pub most_links : ℕ
most_links = 6 * 4096

-- the state of the nodes, the word that is on the way over each link, 0 where there is none, and the last number drawn
pub record Net : Type 0 where
  pub state : List ℕ
  pub way : List ℕ
  pub drawn : ℕ

abbrev pub net : List ℕ → List ℕ → ℕ → Net
net s w g = record { state = s; way = w; drawn = g }

-- the word that the speaker of link l holds
abbrev pub saying : Sizes → List ℕ → ℕ → ℕ
saying S s l = says S s (l / 6) (l % 6)

-- the state once the word w has come over link l
abbrev pub comes : Sizes → ℕ → ℕ → ℕ → List ℕ → List ℕ
comes S o l w s = hear_out S o (l / 6) (l % 6) w s

-- The word of link l meets its fate. A word that is late takes the place of the one that was on the way, which comes now: later words may
-- have come before it.
abbrev pub state_by : Sizes → ℕ → Net → ℕ → Fate → List ℕ
state_by S o n l Lost = n.state
state_by S o n l Late = comes S o l (get_or n.way l 0) n.state
state_by S o n l Twice = comes S o l (saying S n.state l) (comes S o l (saying S n.state l) n.state)
state_by S o n l Once = comes S o l (saying S n.state l) n.state

abbrev pub way_by : Sizes → Net → ℕ → Fate → List ℕ
way_by S n l Lost = n.way
way_by S n l Late = set n.way l (saying S n.state l)
way_by S n l Twice = n.way
way_by S n l Once = n.way

abbrev pub draw_by : Sizes → ℕ → Net → ℕ → ℕ → Net
draw_by S o n l g = net (state_by S o n l (fate_of (chosen 8 g))) (way_by S n l (fate_of (chosen 8 g))) g

unfoldable pub visit : Sizes → ℕ → Net → ℕ → Net
visit S o n l = draw_by S o n l (following n.drawn)

-- what the calls on a net ask for: a sound state, room for a word on each link, and a number of 32 bits
pub record Fit (S : Sizes) (o : ℕ) (s : List ℕ) : Type 0 where
  pub sized : InRange S
  pub turned : o ≤ 7
  pub sound : Sound S o s

pub record Going (S : Sizes) (o : ℕ) (n : Net) : Type 0 where
  pub fit : Fit S o n.state
  pub room : length n.way ≡ links S
  pub small : n.drawn < 4294967296
