-- Demand 3: the talking nodes keep their promise. Assumes nothing.
use mathlib.Core.Path.{◌≡◌, refl, sym, ◌∙◌}
use mathlib.Core.List.{List}
use Prim.Native.Nat.{ℕ, ◌≤◌}
use native.Mathlib.Omega.{arith}
use lib.Dec.{T}
use lib.ListN.{length}
use Rattle.mesh.specs.Mesh.{in_range}
use Rattle.mesh.specs.Steps.{neighbour}
use Rattle.mesh.specs.Cells.{Map, map_of}
use Rattle.mesh.specs.Answers.{answer_no}
use Rattle.rules.specs.Marks.{is_word}
use Rattle.mesh.specs.declared.Sizes.{Sizes}
use Rattle.mesh.proofs.Order.{done_of}
use Rattle.talk.specs.State.{map_in, StateOf, pair, says}
use Rattle.talk.specs.Sound.{◌no_more_than◌, SoundOn, Sound, fresh}
use Rattle.talk.specs.Hear.{changed, outstanding_on}
use Rattle.talk.specs.Entries.{fresh_answer, fresh_out, sound_answer, hear_answer}
use Rattle.talk.specs.Rounds.{Later, FullRounds}
use Rattle.talk.specs.Promise.{fewer_rounds, hear_refusal, count_refusal, count_of, Settled, Promise, FreshPromise}
use Rattle.talk.proofs.State.{pair_talks, speaker_lt, speaker_works}
use Rattle.talk.proofs.Fresh.{fresh_promise}
use Rattle.talk.proofs.Same.{works_word, on_state, on_sound, sound_on}
use Rattle.talk.proofs.Calls.{written, unchanged, fresh_passed, sound_passed, alone, itself, takes, late, counts}
use Rattle.talk.proofs.Later.{later_grown, rounds_later}
use Rattle.talk.proofs.Exact.{no_more, all_marks}
use Rattle.talk.proofs.Rounds.{rounds_settle}
use Rattle.talk.proofs.Exists.{full_rounds}

module _ (m : Map) (o : ℕ) (fit : T (in_range m.sizes)) (o_le : o ≤ 7) where
  abbrev S : Sizes
  S = m.sizes

  exact : (t : List ℕ) → SoundOn m o t → (count_refusal S o t ≡ 0) × (count_of S o t ≡ outstanding_on m t)
  exact t z = rw (counts m o fit o_le t z) (refl, refl)

  module _ (s : List ℕ) (y : Sound S o s) (h : StateOf m s) where
    later_sound : (t : List ℕ) → Later S o s t → SoundOn m o t
    later_sound t l = (later_grown m o fit o_le s t (sound_on m o s y h) l).sound

    weaker : (t : List ℕ) → Later S o s t → (u : List ℕ) → Later S o t u → (k j w : ℕ) → T (pair m k j) → T (is_word w)
        → w no_more_than says S t k j → hear_refusal S o k j w u ≡ 0
    weaker t l u q k j w p v f =
        let g = later_grown m o fit o_le t u (later_sound t l) q in
        rw (takes m o fit o_le u g.sound k j w p v λ a x. g.owns (neighbour S k j) a (f a x))

    held : (t : List ℕ) → Later S o s t → (u : List ℕ) → Later S o t u → (k j : ℕ) → T (pair m k j)
        → hear_refusal S o k j (says S t k j) u ≡ 0
    held t l u q k j p =
        let r = pair_talks m k j p in
        let word = works_word m o t (later_sound t l) (neighbour S k j) (speaker_lt m k j r) (speaker_works m k j r) in
        weaker t l u q k j (says S t k j) p word λ a x. x

    sooner : (t : List ℕ) → Later S o s t → (u : List ℕ) (n : ℕ) → fewer_rounds m ≤ n → FullRounds m o u n t → Settled m o u
    sooner t l u n e r =
        let z = later_sound t l in
        let (a, b) = exact u (later_grown m o fit o_le t u z (rounds_later m o u r)).sound in
        (a, b ∙ rounds_settle m o fit o_le t u n z e r)

    pub promise : Promise m o s
    promise = record {
      alone = λ t l k j w i. alone S o k j w t i;
      itself = λ t l v k j w a b. itself S o k j w t v (done_of (hear_answer S o k j w t) a) (done_of (hear_answer S o k j w v) b);
      sound = λ t l. let z = later_sound t l in (on_sound m o t z, on_state m o t z);
      kept = λ t l u q k _. (later_grown m o fit o_le t u (later_sound t l) q).owns k;
      refused = λ t l k j w n. unchanged (hear_answer S o k j w t) (changed S o k j w t) t n;
      held = held;
      weaker = weaker;
      late = λ t l k j w p v f. let (a, b) = late m o fit o_le t (later_sound t l) k j w p v f in (rw a, b);
      no_more = λ t l. no_more m o t (later_sound t l);
      exact = λ t l. exact t (later_sound t l);
      settled = λ t l e. let z = later_sound t l in all_marks m o t z (sym (exact t z).1 ∙ e.1);
      settles = λ t l u n e. sooner t l u n (omega arith);
      settles_sooner = sooner;
      rounds = λ t l n. full_rounds m o n t;
    }

-- The same from what the calls return. A state that is found sound keeps the promise, for the map that it tells,
pub found_promise : (S : Sizes) (o : ℕ) (s : List ℕ) → answer_no (sound_answer S o s) ≡ 0 → Promise (map_in S s) o s
found_promise S o s e =
    let (((fit, _), o_le), z) = (sound_passed S o s).0 (done_of (sound_answer S o s) e) in
    promise (map_in S s) o fit o_le s z (on_state (map_in S s) o s z)

-- and so do the bytes that making a fresh state writes, for the map that it is made of.
pub made_promise : (S : Sizes) (cells : List ℕ) (o : ℕ) (old : List ℕ) → answer_no (fresh_answer S cells o (length old)) ≡ 0
    → FreshPromise (map_of S cells) o (fresh_out S cells o old) × Promise (map_of S cells) o (fresh_out S cells o old)
made_promise S cells o old e =
    let a = fresh_answer S cells o (length old) in
    let (((fit, _), _), o_le) = (fresh_passed S cells o (length old)).0 (done_of a e) in
    let f = fresh_promise (map_of S cells) o in
    rw (written a (fresh (map_of S cells) o) old e) (f, promise (map_of S cells) o fit o_le (fresh (map_of S cells) o) f.sound f.state)
