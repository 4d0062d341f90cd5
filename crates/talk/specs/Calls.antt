-- The four calls on a state in the numbers that they return: which refusal, in which order; the bad cell that is named; the count; and the lent
-- bytes as a call leaves them. `fresh_call`, `sound_call`, `outstanding_call` and `hear_call` of proofs/ show that the calls of Entries are so.
-- Assumes nothing.
use Rattle.std.specs.Prelude.{List, [], ◌∷◌, ◌↔◌, ◌⊎◌, ◌≢◌, ◌≡◌, ℕ, ◌+◌, ◌*◌, ◌<◌, ◌≤◌, T, length, get_or}
use Rattle.mesh.specs.Mesh.{InRange, nodes}
use Rattle.mesh.specs.Cells.{map_of, state_length}
use Rattle.mesh.specs.Order.{Check, ◌else◌, ◌give◌, NoneBad, NamesBad}
use Rattle.rules.specs.Marks.{Kind, has, is_word, rule_byte}
use Rattle.mesh.specs.declared.Sizes.{Sizes}
use Rattle.talk.specs.State.{own, heard, map_in, pair, says}
use Rattle.talk.specs.Sound.{◌no_more_than◌, Sound}
use Rattle.talk.specs.Hear.{outstanding}
use Rattle.talk.specs.Promise.{FreshPromise}

-- making a fresh state: old is the room that is lent, new what it then holds
abbrev pub fresh_checks : Sizes → List ℕ → ℕ → List ℕ → List Check
fresh_checks S cells o old =
    InRange S else 1
    ∷ (length old ≡ state_length S) else 2
    ∷ (length cells ≡ nodes S) else 2
    ∷ NoneBad S cells else 4
    ∷ (o ≤ 7) else 5
    ∷ []

pub record FreshCall (S : Sizes) (cells : List ℕ) (o : ℕ) (old : List ℕ) (refusal bad : ℕ) (new : List ℕ) : Type 0 where
  pub order : fresh_checks S cells o old give refusal
  pub names_bad : NamesBad S cells refusal bad
  pub granted : refusal ≡ 0 → FreshPromise (map_of S cells) o new
  pub nothing : refusal ≢ 0 → new ≡ old

-- is the state s sound
abbrev pub sound_checks : Sizes → ℕ → List ℕ → List Check
sound_checks S o s = InRange S else 1 ∷ (length s ≡ state_length S) else 2 ∷ (o ≤ 7) else 5 ∷ Sound S o s else 6 ∷ []

pub record SoundCall (S : Sizes) (o : ℕ) (s : List ℕ) (refusal bad : ℕ) : Type 0 where
  pub order : sound_checks S o s give refusal
  pub no_bad : bad ≡ 0

-- how many words are outstanding
pub record OutstandingCall (S : Sizes) (o : ℕ) (s : List ℕ) (refusal bad n : ℕ) : Type 0 where
  pub order : sound_checks S o s give refusal
  pub no_bad : bad ≡ 0
  pub granted : refusal ≡ 0 → n ≡ outstanding S s
  pub nothing : refusal ≢ 0 → n ≡ 0

-- "Hearing a word adds its marks to the one heard byte and then sets that node's own byte by the rule. No other byte changes."
pub record WordHeard (S : Sizes) (o k j w : ℕ) (old new : List ℕ) : Type 0 where
  pub word : T (is_word (heard new k j))
  pub adds : (a : Kind) → T (has (heard new k j) a) ↔ (T (has (heard old k j) a) ⊎ T (has w a))
  pub ruled : own new k ≡ rule_byte S o (heard new k)
  pub others : (i : ℕ) → i ≢ 7 * k → i ≢ 7 * k + 1 + j → get_or new i 0 ≡ get_or old i 0
  pub long : length new ≡ length old

-- node k hears the word w from direction j: old is the state that is lent, new what it then is
abbrev pub hear_checks : Sizes → ℕ → ℕ → ℕ → ℕ → List ℕ → List Check
hear_checks S o k j w old =
    InRange S else 1
    ∷ (length old ≡ state_length S) else 2
    ∷ (o ≤ 7) else 5
    ∷ (k < nodes S) else 5
    ∷ (j ≤ 5) else 5
    ∷ T (is_word w) else 5
    ∷ Sound S o old else 6
    ∷ T (pair (map_in S old) k j) else 7
    ∷ (w no_more_than says S old k j) else 8
    ∷ []

pub record HearCall (S : Sizes) (o k j w : ℕ) (old : List ℕ) (refusal bad : ℕ) (new : List ℕ) : Type 0 where
  pub order : hear_checks S o k j w old give refusal
  pub no_bad : bad ≡ 0
  pub granted : refusal ≡ 0 → WordHeard S o k j w old new
  pub nothing : refusal ≢ 0 → new ≡ old
