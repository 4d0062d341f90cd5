-- Rounds of words: first some with loss, then full ones. Assumes nothing.
use Rattle.std.specs.Prelude.{cond, List, [], ◌∷◌, ℕ, zero, suc, ◌+◌, ◌*◌, ◌%◌, ltb, get_or, replicate}
use Rattle.mesh.specs.Cells.{Map}
use Rattle.mesh.specs.declared.Sizes.{Sizes}
use Rattle.talk.specs.Sound.{fresh}
use Rattle.rounds.specs.Chance.{seed, following, chosen}
use Rattle.rounds.specs.Links.{links, Net, net, saying, comes, visit}

-- A round with loss meets each link once, from a chosen one on, in strides of a chosen length: a prime, and more than there are links.
abbrev pub strides : List ℕ
strides = 24593 ∷ 24611 ∷ 24623 ∷ 24631 ∷ []

abbrev pub met : Sizes → ℕ → ℕ → ℕ → ℕ
met S first stride i = (first + stride * i) % links S

-- the first i visits of such a round
unfoldable pub visits : Sizes → ℕ → ℕ → ℕ → Net → ℕ → Net
visits S o first stride n zero = n
visits S o first stride n (suc i) = visit S o (visits S o first stride n i) (met S first stride i)

abbrev pub lossy_by : Sizes → ℕ → Net → ℕ → ℕ → Net
lossy_by S o n g h = visits S o (chosen (links S) g) (get_or strides (chosen 4 h) 0) (net n.state n.way h) (links S)

unfoldable pub lossy_round : Sizes → ℕ → Net → Net
lossy_round S o n = lossy_by S o n (following n.drawn) (following (following n.drawn))

-- A full round: over each link in turn comes what its speaker holds then. The first l links of it.
unfoldable pub tells : Sizes → ℕ → List ℕ → ℕ → List ℕ
tells S o s zero = s
tells S o s (suc l) = comes S o l (saying S (tells S o s l) l) (tells S o s l)

unfoldable pub full_round : Sizes → ℕ → List ℕ → List ℕ
full_round S o s = tells S o s (links S)

-- how many rounds have loss
abbrev pub lossy_rounds : ℕ
lossy_rounds = 8

-- the round after r rounds
unfoldable pub one_round : Sizes → ℕ → ℕ → Net → Net
one_round S o r n = cond (ltb r lossy_rounds) (lossy_round S o n) (net (full_round S o n.state) n.way n.drawn)

-- a map's nodes after r rounds
unfoldable pub after_rounds : Map → ℕ → ℕ → Net
after_rounds m o zero = net (fresh m o) (replicate (links m.sizes) 0) seed
after_rounds m o (suc r) = one_round m.sizes o r (after_rounds m o r)
