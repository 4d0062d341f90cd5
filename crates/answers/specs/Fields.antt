-- The number and values of each answer, as the C boundary returns them, and what fits 32 bits. Assumes nothing.
-- "A granted call returns number 0 with its values. A refusal returns its number and 0 for every value."
use Rattle.std.specs.Prelude.{◌≡◌, ℕ, ◌<◌, Ok, Result, Option}
use Rattle.mesh.specs.Answers.{answer_no, answer_bad, numbered_value, placed_at, stepped_there, stepped_at, Answer}
use Rattle.mesh.specs.declared.Place.{Place}
use Rattle.answers.specs.declared.NodeAnswer.{NodeAnswer}
use Rattle.answers.specs.declared.PlaceAnswer.{PlaceAnswer}
use Rattle.answers.specs.declared.StepAnswer.{StepAnswer}
use Rattle.answers.specs.declared.DoneAnswer.{DoneAnswer}
use Rattle.answers.specs.declared.CountedAnswer.{CountedAnswer}
use Rattle.answers.specs.declared.VerdictAnswer.{VerdictAnswer}
use Rattle.answers.specs.declared.MapAnswer.{MapAnswer}
use Rattle.paths.specs.Entries.{verdict_hops, verdict_offered}
use Rattle.format.specs.Entry.{map_read_sizes}
use Rattle.mesh.specs.declared.Refusal.{Refusal}
use Rattle.mesh.specs.declared.Sizes.{Sizes}
use Rattle.paths.specs.declared.Grant.{Grant}

-- the number of a place
abbrev pub node_fields : Result ℕ Refusal → NodeAnswer
node_fields a = record { refusal = answer_no a; node = numbered_value a }

-- the place of a node
abbrev pub place_fields : Result Place Refusal → PlaceAnswer
place_fields a = record { refusal = answer_no a; x = (placed_at a).x; y = (placed_at a).y; z = (placed_at a).z }

-- a step
abbrev pub step_fields : Result (Option Place) Refusal → StepAnswer
step_fields a = record { refusal = answer_no a; there = stepped_there a; x = (stepped_at a).x; y = (stepped_at a).y; z = (stepped_at a).z }

-- a call without a value: its number, and the first bad cell
abbrev pub done_fields : Answer → DoneAnswer
done_fields a = record { refusal = answer_no a; bad = answer_bad a }

-- a number, or a length written
abbrev pub counted_fields : Result ℕ Refusal → CountedAnswer
counted_fields a = record { refusal = answer_no a; bad = answer_bad a; count = numbered_value a }

-- the verdict
abbrev pub verdict_fields : Result Grant Refusal → VerdictAnswer
verdict_fields v = record { refusal = answer_no v; bad = answer_bad v; hops = verdict_hops v; offered = verdict_offered v }

-- a map that was read
abbrev pub map_fields : Result Sizes Refusal → MapAnswer
map_fields a = record { refusal = answer_no a; bad = answer_bad a; w = (map_read_sizes a).w; h = (map_read_sizes a).h; d = (map_read_sizes a).d }

-- ---- what the functions that make these fields ask for: every value fits 32 bits

abbrev pub Fits : ℕ → Type 0
Fits n = n < 4294967296

abbrev pub PlaceFits : Place → Type 0
PlaceFits p = Fits p.x × Fits p.y × Fits p.z

abbrev pub PlacedFits : Result Place Refusal → Type 0
PlacedFits a = (p : Place) → a ≡ Ok p → PlaceFits p

abbrev pub NumberedFits : Result ℕ Refusal → Type 0
NumberedFits a = Fits (answer_bad a) × Fits (numbered_value a)

abbrev pub VerdictFits : Result Grant Refusal → Type 0
VerdictFits v = Fits (answer_bad v) × Fits (verdict_hops v)

abbrev pub MapFits : Result Sizes Refusal → Type 0
MapFits a = Fits (answer_bad a) × Fits (map_read_sizes a).w × Fits (map_read_sizes a).h × Fits (map_read_sizes a).d
