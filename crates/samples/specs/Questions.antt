-- What a sample of 01 asks, and the numbers that the definitions answer: the refusal's number, then the values. Assumes nothing.
use Rattle.std.specs.Prelude.{List, [], ◌∷◌, ◌++◌, ℕ, take, replicate, Ok, Err, Result}
use Rattle.mesh.specs.Mesh.{nodes}
use Rattle.mesh.specs.Cells.{Map, state_length}
use Rattle.mesh.specs.Answers.{answer_no, refusal_no}
use Rattle.rules.specs.Entry.{marks_answer, marks_out}
use Rattle.touching.specs.Entry.{components_answer, components_row}
use Rattle.touching.specs.declared.Component.{Component}
use Rattle.paths.specs.Entries.{verdict_answer, verdict_hops, verdict_offered, route_answer, route_out}
use Rattle.talk.specs.State.{own}
use Rattle.talk.specs.Entries.{fresh_out, hear_answer, hear_out, outstanding_answer}
use Rattle.talk.specs.Rounds.{Call, run}
use Rattle.mesh.specs.declared.Refusal.{Refusal}
use Rattle.paths.specs.declared.Grant.{Grant}

-- of a map: the marks or the components in an orientation; the verdict or the route from a node to a node; and, orientation 0, what a word
-- does, or how many are outstanding, after a fresh state and these calls
pub data Question : Type 0 where
  marks components : Map → ℕ → Question
  verdict route : Map → ℕ → ℕ → Question
  word : Map → List Call → ℕ → ℕ → ℕ → Question
  outstanding : Map → List Call → Question

-- what is lent: bytes or numbers that are no answer
abbrev pub lent : ℕ → List ℕ
lent n = replicate n 9

abbrev pub no_record : Component
no_record = record { count = 9; x0 = 9; y0 = 9; z0 = 9; x1 = 9; y1 = 9; z1 = 9 }

abbrev pub numbers : Result ℕ Refusal → List ℕ
numbers (Ok n) = 0 ∷ n ∷ []
numbers (Err r) = refusal_no r ∷ 0 ∷ []

abbrev pub judgement : Result Grant Refusal → List ℕ
judgement v = answer_no v ∷ verdict_hops v ∷ verdict_offered v ∷ []

-- as many of a row's places as the call says that it wrote
abbrev pub written : {A : Type 0} → Result ℕ Refusal → List A → List A
written (Ok n) l = take n l
written (Err r) l = []

abbrev pub records : List Component → List ℕ
records [] = []
records (c ∷ cs) = c.count ∷ c.x0 ∷ c.y0 ∷ c.z0 ∷ c.x1 ∷ c.y1 ∷ c.z1 ∷ records cs

-- the state after a fresh one and these calls
abbrev pub state : Map → List Call → List ℕ
state m calls = run m.sizes 0 (fresh_out m.sizes m.cells 0 (lent (state_length m.sizes))) calls

-- what the definitions of each call answer
abbrev pub reply : Question → List ℕ
reply (marks m o) = answer_no (marks_answer m.sizes m.cells o (nodes m.sizes)) ∷ marks_out m.sizes m.cells o (lent (nodes m.sizes))
reply (components m o) =
    let n = nodes m.sizes in
    let a = components_answer m.sizes m.cells o n n in
    numbers a ++ records (written a (components_row m.sizes m.cells o (lent n) (replicate n no_record)))
reply (verdict m s e) = judgement (verdict_answer m.sizes m.cells s e)
reply (route m s e) =
    let a = route_answer m.sizes m.cells s e 46 in
    numbers a ++ written a (route_out m.sizes m.cells s e (lent 46))
reply (word m calls k j w) =
    let s = state m calls in
    answer_no (hear_answer m.sizes 0 k j w s) ∷ own (hear_out m.sizes 0 k j w s) k ∷ []
reply (outstanding m calls) = numbers (outstanding_answer m.sizes 0 (state m calls))
