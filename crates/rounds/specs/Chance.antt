-- The numbers by which words are lost, repeated, late and out of order: always the same ones. Assumes nothing.
use Rattle.std.specs.Prelude.{cond, ℕ, ◌+◌, ◌*◌, ◌/◌, ◌%◌, ltb}
use Rattle.rounds.specs.declared.chance.Fate.{Fate}
use Rattle.rounds.specs.declared.chance.Fate.TheVariants.{Lost, Late, Twice, Once}

-- the number before the first
abbrev pub seed : ℕ
seed = 1

-- each number from the one before: below 2 to the power of 32
unfoldable pub following : ℕ → ℕ
following g = (1664525 * g + 1013904223) % 4294967296

-- what a number chooses, of n: by its upper half, since the lower bits repeat soon
unfoldable pub chosen : ℕ → ℕ → ℕ
chosen n g = g / 65536 % n

-- what becomes of a word: of eight, two are lost, two are late, one comes twice and three come once
abbrev pub fate_of : ℕ → Fate
fate_of c = cond (ltb c 2) Lost (cond (ltb c 4) Late (cond (ltb c 5) Twice Once))
