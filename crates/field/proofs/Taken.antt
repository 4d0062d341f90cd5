-- What the checks of a call grant, in the words that the code asks; and that the code's two stores are what a word changes. Assumes nothing.
use mathlib.Core.Path.{◌≡◌, refl, ap, ◌∙◌}
use mathlib.Core.Logic.{inl, inr}
use mathlib.Core.Bool.{Bool, true, false, ◌&&◌}
use mathlib.Core.List.{List}
use Prim.Native.Nat.{ℕ, ◌+◌, ◌*◌, ◌<◌, ◌≤◌}
use native.Mathlib.Omega.{arith}
use native.Mathlib.Decide.{ℕ_discrete}
use lib.Bits.{bit_or}
use lib.Dec.{T}
use lib.ListN.{length, set}
use lib.Seq.{get_or-set_same, get_or-set_other}
use Rattle.mesh.specs.Mesh.{InRange, nodes, place_of}
use Rattle.mesh.specs.Steps.{next, neighbour}
use Rattle.mesh.specs.Cells.{Map, wall}
use Rattle.rules.specs.Marks.{has, byte_of, is_word}
use Rattle.mesh.specs.Answers.{◌and_then◌, unless, check_orientation, check_node, check_direction, accepted}
use Rattle.mesh.specs.declared.Sizes.{Sizes}
use Rattle.mesh.specs.declared.Refusal.{Refusal}
use Rattle.mesh.specs.declared.Refusal.TheVariants.{Unsound, NoPair, NotHeld}
use Rattle.mesh.proofs.Tests.{tried, holds_true}
use Rattle.mesh.proofs.Answers.{sizes_of, split, orientation_granted}
use Rattle.rules.proofs.Bytes.{word_cases}
use Rattle.talk.specs.State.{heard, map_in, works_node, pair, says}
use Rattle.talk.specs.Sound.{within, sound, SoundOn, Sound}
use Rattle.talk.specs.Hear.{add_marks, added, ruled_at, changed}
use Rattle.talk.specs.Entries.{check_state, check_word, hear_answer}
use Rattle.states.specs.Six.{Ready, is_own, is_heard, fits, quick_rule}
use Rattle.talk.proofs.Decide.{sound_iff}
use Rattle.talk.proofs.State.{pair_talks, talks_pair, speaker_lt, speaker_works}
use Rattle.talk.proofs.Same.{works_word}
use Rattle.talk.proofs.Hear.{added_word}
use Rattle.talk.proofs.Calls.{state_passed, numbers_passed, hear_passed}
use Rattle.states.proofs.Fitting.{fits_word}
use Rattle.states.proofs.Heard.{word_heard, quick_is}
use Rattle.std.specs.Prelude.{Some, None, Option}
use Rattle.mesh.specs.declared.Place.{Place}

-- ---- the checks

ready : (S : Sizes) (s : List ℕ) → check_state S (length s) ≡ accepted → Ready S s
ready S s e = let (t, l) = (state_passed S (length s)).0 e in record { sized = sizes_of S ((holds_true _).0 t); long = l }

-- past the checks of a question
pub question_ready : (S : Sizes) (s : List ℕ) (o : ℕ) → check_state S (length s) and_then check_orientation o ≡ accepted → Ready S s × (o ≤ 7)
question_ready S s o e =
    let (f, g) = split (check_state S (length s)) (check_orientation o) e in (ready S s f, orientation_granted o g)

pub state_sized : (S : Sizes) (n : ℕ) → check_state S n ≡ accepted → InRange S
state_sized S n e = sizes_of S ((holds_true _).0 ((state_passed S n).0 e).0)

-- the numbers of a call of hear are as they should be
pub record Numbers (S : Sizes) (s : List ℕ) (o k j w : ℕ) : Type 0 where
  pub whole : Ready S s
  pub turned : o ≤ 7
  pub node : k < nodes S
  pub direction : j < 6
  pub word : T (is_word w)

pub numbers : (S : Sizes) (s : List ℕ) (o k j w : ℕ)
    → check_state S (length s) and_then check_orientation o and_then check_node S k and_then check_direction j and_then check_word w ≡ accepted
    → Numbers S s o k j w
numbers S s o k j w e =
    let (((((t, l), ho), hk), hj), hw) = (numbers_passed S (length s) o k j w).0 e in
    record { whole = record { sized = sizes_of S ((holds_true _).0 t); long = l }; turned = ho; node = hk; direction = omega arith; word = hw }

pub word_low : (w : ℕ) → T (is_word w) → w < 7
word_low = word_cases (λ w. w < 7) (omega arith) (omega arith) (omega arith) (omega arith)

-- "the word holds a mark that the speaker lacks now", as the code tests it
held_is : (S : Sizes) (o : ℕ) (s : List ℕ) → Sound S o s → (k j w : ℕ) → T (pair (map_in S s) k j) → T (is_word w) → fits (says S s k j) w
    ≡ within w (says S s k j)
held_is S o s z k j w t v =
    let r = pair_talks (map_in S s) k j t in
    let n = works_word (map_in S s) o s z (neighbour S k j) (speaker_lt (map_in S s) k j r) (speaker_works (map_in S s) k j r) in
    fits_word (says S s k j) w n ∙ ap (λ (b : Bool). b && within w (says S s k j)) ((holds_true (is_word w)).0 v)

-- the last three checks of a call of hear; a sound state's pair is asked for the last one alone
pub held_last : (S : Sizes) (o : ℕ) (s : List ℕ) (k j w : ℕ) → T (is_word w)
    → unless (sound S o s) Unsound and_then unless (pair (map_in S s) k j) NoPair and_then unless (fits (says S s k j) w) NotHeld
    ≡ unless (sound S o s) Unsound and_then unless (pair (map_in S s) k j) NoPair and_then unless (within w (says S s k j)) NotHeld
held_last S o s k j w v = go (sound S o s) refl (pair (map_in S s) k j) refl
  where
    go : (t : Bool) → sound S o s ≡ t → (p : Bool) → pair (map_in S s) k j ≡ p
        → unless t Unsound and_then unless p NoPair and_then unless (fits (says S s k j) w) NotHeld
        ≡ unless t Unsound and_then unless p NoPair and_then unless (within w (says S s k j)) NotHeld
    go false e p f = refl
    go true e false f = refl
    go true e true f = rw (held_is S o s ((sound_iff S o s).0 ((holds_true _).1 e)) k j w ((holds_true _).1 f) v)

-- tests that are refused alike are one test
pub three_tests : (a b c : Bool) (r : Refusal) → unless (a && b && c) r ≡ unless a r and_then unless b r and_then unless c r
three_tests false b c r = refl
three_tests true false c r = refl
three_tests true true c r = refl

-- ---- the two stores

or_marks : (b w : ℕ) → T (is_word b) → T (is_word w) → bit_or b w ≡ add_marks b w
unfolding add_marks byte_of has
or_marks b w s t = word_cases (λ b. bit_or b w ≡ add_marks b w)
    (word_cases (λ w. bit_or 0 w ≡ add_marks 0 w) refl refl refl refl w t)
    (word_cases (λ w. bit_or 2 w ≡ add_marks 2 w) refl refl refl refl w t)
    (word_cases (λ w. bit_or 4 w ≡ add_marks 4 w) refl refl refl refl w t)
    (word_cases (λ w. bit_or 6 w ≡ add_marks 6 w) refl refl refl refl w t)
    b s

-- a working node of a sound state has heard 8, 1 or words
pub heard_byte : (m : Map) (o : ℕ) (s : List ℕ) → SoundOn m o s → (k j : ℕ) → k < nodes m.sizes → T (works_node m k) → j < 6
    → T (is_heard (heard s k j))
unfolding is_heard is_own is_word
heard_byte m o s z k j l w h = go (next m.sizes (place_of m.sizes k) j) refl
  where
    go : (n : Option Place) → next m.sizes (place_of m.sizes k) j ≡ n → T (is_heard (heard s k j))
    go None e = rw (z.edge k j l w h e) tt
    go (Some q) e = elim (tried (wall m (place_of m.sizes k) j q)) [
      | inl b ↦ rw (z.walled k j q l w e b) tt
      | inr f ↦ word_heard (heard s k j) (z.words k j (talks_pair m k j (record { lt = l; works_k = w; speaker = q; there = e; free = f }))).0
    ]

module _ (S : Sizes) (o k j w : ℕ) (s : List ℕ) (e : hear_answer S o k j w s ≡ accepted) where
  pub hear_numbers : Numbers S s o k j w
  hear_numbers =
      let ((((((((t, l), ho), hk), hj), hw), _), _), _) = (hear_passed S o k j w s).0 e in
      record { whole = record { sized = sizes_of S ((holds_true _).0 t); long = l }; turned = ho; node = hk; direction = omega arith; word = hw }

  sound_there : Sound S o s
  sound_there = ((hear_passed S o k j w s).0 e).0.0.1

  paired : T (pair (map_in S s) k j)
  paired = ((hear_passed S o k j w s).0 e).0.1

  -- the byte that is stored first
  first_is : bit_or (heard s k j) w ≡ add_marks (heard s k j) w
  first_is = or_marks (heard s k j) w (sound_there.words k j paired).0 hear_numbers.word

  heard_then : (i : ℕ) → i < 6 → T (is_heard (heard (added k j w s) k i))
  unfolding added
  heard_then i h = elim (ℕ_discrete i j) [
    | yes q ↦ rw (
      q,
      get_or-set_same s (7 * k + 1 + j) (add_marks (heard s k j) w) 0
          (omega (arith, hear_numbers.node, hear_numbers.direction, hear_numbers.whole.long)),
    )
        (word_heard (add_marks (heard s k j) w) (added_word (heard s k j) w))
    | no n ↦ rw (get_or-set_other s (7 * k + 1 + j) (7 * k + 1 + i) (add_marks (heard s k j) w) 0 (omega arith))
        (heard_byte (map_in S s) o s sound_there k i hear_numbers.node (pair_talks (map_in S s) k j paired).works_k h)
  ]

  stored : (x b : ℕ) → x ≡ add_marks (heard s k j) w → b ≡ quick_rule S o (heard (set s (7 * k + 1 + j) x) k)
      → set (set s (7 * k + 1 + j) x) (7 * k) b ≡ changed S o k j w s
  unfolding changed ruled_at added
  stored x b q f = rw (f, q) (ap (set (added k j w s) (7 * k)) (quick_is S o (heard (added k j w s) k) heard_then))

  pub taken : (b : ℕ) → b ≡ quick_rule S o (heard (set s (7 * k + 1 + j) (bit_or (heard s k j) w)) k)
      → set (set s (7 * k + 1 + j) (bit_or (heard s k j) w)) (7 * k) b ≡ changed S o k j w s
  taken b = stored (bit_or (heard s k j) w) b first_is
