-- What is told of each round, and when the nodes are settled. Assumes nothing.
use Rattle.std.specs.Prelude.{true, false, List, ℕ, zero, suc, ◌+◌, eqb}
use Rattle.mesh.specs.Tools.{bit, sum}
use Rattle.mesh.specs.Mesh.{nodes}
use Rattle.mesh.specs.Cells.{Map}
use Rattle.rules.specs.Marks.{useless, cant_reach, has}
use Rattle.mesh.specs.declared.Sizes.{Sizes}
use Rattle.talk.specs.State.{own}
use Rattle.talk.specs.Hear.{outstanding_on}
use Rattle.rounds.specs.Rounds.{lossy_rounds, after_rounds}

-- how many marks the nodes hold: a node that holds both counts twice
abbrev pub how_many_marks : ℕ → ℕ
how_many_marks b = bit (has b useless) + bit (has b cant_reach)

unfoldable pub marks_held : Sizes → List ℕ → ℕ
marks_held S s = sum (nodes S) λ k. how_many_marks (own s k)

-- how much news is outstanding after r rounds
abbrev pub outstanding_after : Map → ℕ → ℕ → ℕ
outstanding_after m o r = outstanding_on m (after_rounds m o r).state

abbrev pub marks_after : Map → ℕ → ℕ → ℕ
marks_after m o r = marks_held m.sizes (after_rounds m o r).state

-- the round after which nothing is outstanding: the first from r on, looked for in n rounds
unfoldable pub settled_from : Map → ℕ → ℕ → ℕ → ℕ
settled_from m o zero r = r
settled_from m o (suc n) r = elim (eqb (outstanding_after m o r) 0) [ true ↦ r | false ↦ settled_from m o n (suc r) ]

-- W + H + D full rounds settle, since no mark is shown by more steps ahead: so many rounds at the most
abbrev pub longest : Sizes → ℕ
longest S = lossy_rounds + (S.w + S.h + S.d)

abbrev pub settled_at : Map → ℕ → ℕ
settled_at m o = settled_from m o (longest m.sizes) 0
