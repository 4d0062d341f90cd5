-- The calls of Entries are as their records say, in numbers. Assumes nothing.
use mathlib.Core.Path.{◌≡◌, refl, sym, ◌∙◌}
use mathlib.Core.Logic.{◌↔◌, ◌≢◌, inl, inr}
use mathlib.Core.Bool.{Bool}
use mathlib.Core.List.{List, [], ◌∷◌, ◌++◌}
use Prim.Native.Nat.{ℕ, ◌<◌, ◌≤◌}
use native.Mathlib.Omega.{arith}
use lib.Dec.{T, eqb, leb, ltb}
use lib.ListN.{length}
use Rattle.mesh.specs.Mesh.{InRange, nodes}
use Rattle.mesh.specs.Cells.{map_of, state_length}
use Rattle.mesh.specs.Answers.{refusal_no, answer_no, answer_bad, answered, numbered_value, accepted, Answer, ◌and_then◌, unless, check_sizes, check_map, check_orientation}
use Rattle.mesh.specs.Order.{Check, ◌else◌, ◌give◌, NoneBad, NamesBad, map_checks}
use Rattle.rules.specs.Marks.{is_word}
use Rattle.mesh.specs.declared.Sizes.{Sizes}
use Rattle.mesh.specs.declared.Refusal.{Refusal}
use Rattle.mesh.specs.declared.Refusal.TheVariants.{BadLength, BadNumber, Unsound, NoPair, NotHeld}
use Rattle.mesh.proofs.Tests.{T-eq, T-le, T-lt}
use Rattle.mesh.proofs.Order.{not_given, ◌decide◌, gives, decides_then, decides_by, sizes_decided, orientation_decided, map_decided, no_cell, bad_then, bad_after, bad_sizes, bad_map, not_zero, done_of}
use Rattle.talk.specs.State.{heard, map_in, pair, says}
use Rattle.talk.specs.Sound.{within, sound, fresh}
use Rattle.talk.specs.Hear.{changed, outstanding}
use Rattle.talk.specs.Entries.{check_state, fresh_answer, fresh_out, sound_answer, outstanding_answer, hear_answer, hear_out}
use Rattle.talk.specs.Calls.{FreshCall, sound_checks, SoundCall, OutstandingCall, WordHeard, hear_checks, HearCall}
use Rattle.talk.proofs.Decide.{within_iff, sound_iff}
use Rattle.talk.proofs.Hear.{added_marks, added_word, others_kept, long_kept, heard_new, own_new}
use Rattle.talk.proofs.Calls.{written, unchanged, hear_passed}
use Rattle.talk.proofs.Promise.{made_promise}
use Rattle.std.specs.Prelude.{Ok, Err}

-- ---- the order of the checks

-- checks that decide an answer, one after another
record Decided (cs : List Check) (a : Answer) : Type 0 where
  by : cs decide a

infixl 20 ◌then_decided◌
◌then_decided◌ : {cs ds : List Check} {a b : Answer} → Decided cs a → Decided ds b → Decided (cs ++ ds) (a and_then b)
◌then_decided◌ {cs} {ds} {a} {b} p q = record { by = decides_then cs ds a b p.by q.by }

tested : (t : Bool) (r : Refusal) {P : Type 0} → T t ↔ P → Decided (P else refusal_no r ∷ []) (unless t r)
tested t r q = record { by = decides_by t r q }

sized : (S : Sizes) → Decided (InRange S else 1 ∷ []) (check_sizes S)
sized S = record { by = sizes_decided S }

mapped : (S : Sizes) (cells : List ℕ) → Decided (map_checks S cells) (check_map S cells)
mapped S cells = record { by = map_decided S cells }

turned : (o : ℕ) → Decided ((o ≤ 7) else 5 ∷ []) (check_orientation o)
turned o = record { by = orientation_decided o }

state_decided : (S : Sizes) (n : ℕ) → Decided (InRange S else 1 ∷ (n ≡ state_length S) else 2 ∷ []) (check_state S n)
unfolding check_state
state_decided S n = sized S then_decided tested (eqb n (state_length S)) BadLength (T-eq n (state_length S))

-- the sizes are asked twice
abbrev asked_fresh : Sizes → List ℕ → ℕ → ℕ → List Check
asked_fresh S cells o n = InRange S else 1 ∷ (n ≡ state_length S) else 2 ∷ map_checks S cells ++ (o ≤ 7) else 5 ∷ []

fresh_decided : (S : Sizes) (cells : List ℕ) (o n : ℕ) → Decided (asked_fresh S cells o n) (fresh_answer S cells o n)
unfolding fresh_answer
fresh_decided S cells o n = state_decided S n then_decided mapped S cells then_decided turned o

-- but what has passed passes again
again : {P Q : Type 0} {i j k : ℕ} (cs : List Check) (n : ℕ) → P else i ∷ Q else j ∷ P else k ∷ cs give n → P else i ∷ Q else j ∷ cs give n
again cs n (inl a) = inl a
again cs n (inr (p, inl a)) = inr (p, inl a)
again cs n (inr (p, inr (q, inl a))) = absurd (a.0 p)
again cs n (inr (p, inr (q, inr a))) = inr (p, inr (q, a.1))

sound_decided : (S : Sizes) (o : ℕ) (s : List ℕ) → Decided (sound_checks S o s) (sound_answer S o s)
unfolding sound_answer
sound_decided S o s = state_decided S (length s) then_decided turned o then_decided tested (sound S o s) Unsound (sound_iff S o s)

hear_decided : (S : Sizes) (o k j w : ℕ) (s : List ℕ) → Decided (hear_checks S o k j w s) (hear_answer S o k j w s)
unfolding hear_answer
hear_decided S o k j w s =
    state_decided S (length s)
    then_decided turned o
    then_decided tested (ltb k (nodes S)) BadNumber (T-lt k (nodes S))
    then_decided tested (leb j 5) BadNumber (T-le j 5)
    then_decided tested (is_word w) BadNumber (λ t. t, λ t. t)
    then_decided tested (sound S o s) Unsound (sound_iff S o s)
    then_decided tested (pair (map_in S s) k j) NoPair (λ t. t, λ t. t)
    then_decided tested (within w (says S s k j)) NotHeld (within_iff w (says S s k j))

-- ---- the bad cell

none_named : (a : Answer) → answer_no a ≢ 4 → answer_bad a ≡ 0
none_named (Ok _) n = refl
none_named (Err r) n = no_cell r n

fresh_bad : (S : Sizes) (cells : List ℕ) (o n : ℕ) → NamesBad S cells (answer_no (fresh_answer S cells o n)) (answer_bad (fresh_answer S cells o n))
unfolding fresh_answer check_state
fresh_bad S cells o n =
    let long = unless (eqb n (state_length S)) BadLength in
    bad_after S cells (check_sizes S and_then long and_then check_map S cells) (leb o 7) BadNumber (λ e. omega arith)
    (bad_then S cells (check_sizes S and_then long) (check_map S cells)
    (bad_after S cells (check_sizes S) (eqb n (state_length S)) BadLength (λ e. omega arith) (bad_sizes S cells))
    (bad_map S cells))

-- ---- the four calls

pub fresh_call : (S : Sizes) (cells : List ℕ) (o : ℕ) (old : List ℕ)
    → let a = fresh_answer S cells o (length old) in FreshCall S cells o old (answer_no a) (answer_bad a) (fresh_out S cells o old)
fresh_call S cells o old =
    let a = fresh_answer S cells o (length old) in
    record {
      order = again ((length cells ≡ nodes S) else 2 ∷ NoneBad S cells else 4 ∷ (o ≤ 7) else 5 ∷ []) (answer_no a)
          (gives (asked_fresh S cells o (length old)) a (fresh_decided S cells o (length old)).by);
      names_bad = fresh_bad S cells o (length old);
      granted = λ e. (made_promise S cells o old e).0;
      nothing = unchanged a (fresh (map_of S cells) o) old;
    }

pub sound_call : (S : Sizes) (o : ℕ) (s : List ℕ) → let a = sound_answer S o s in SoundCall S o s (answer_no a) (answer_bad a)
sound_call S o s =
    let a = sound_answer S o s in
    let order = gives (sound_checks S o s) a (sound_decided S o s).by in
    record { order = order; no_bad = none_named a (not_given (sound_checks S o s) (answer_no a) 4 tt (λ e. omega arith) order) }

pub outstanding_call : (S : Sizes) (o : ℕ) (s : List ℕ)
    → let a = outstanding_answer S o s in OutstandingCall S o s (answer_no a) (answer_bad a) (numbered_value a)
unfolding outstanding_answer
outstanding_call S o s = go (sound_answer S o s) (sound_call S o s)
  where
    go : (a : Answer) → SoundCall S o s (answer_no a) (answer_bad a)
        → let n = answered a (outstanding S s) in OutstandingCall S o s (answer_no n) (answer_bad n) (numbered_value n)
    go (Ok _) c = record { order = c.order; no_bad = refl; granted = λ _. refl; nothing = λ n. absurd (n refl) }
    go (Err r) c = record { order = c.order; no_bad = c.no_bad; granted = λ e. absurd (not_zero r e); nothing = λ _. refl }

word_heard : (S : Sizes) (o k j w : ℕ) (s : List ℕ) → hear_answer S o k j w s ≡ accepted → WordHeard S o k j w s (changed S o k j w s)
word_heard S o k j w s d =
    let q = ((hear_passed S o k j w s).0 d).0.0.0.0 in
    let l = q.0.0.0.1 in
    let h : j < 6 = omega (arith, q.1) in
    let e = heard_new S o s k j w l q.0.1 h in
    record {
      word = rw e (added_word (heard s k j) w);
      adds = λ a. rw e (added_marks (heard s k j) w a);
      ruled = own_new S o s k j w l q.0.1 h;
      others = others_kept S o s k j w;
      long = long_kept S o s k j w l q.0.1 h ∙ sym l;
    }

pub hear_call : (S : Sizes) (o k j w : ℕ) (s : List ℕ)
    → let a = hear_answer S o k j w s in HearCall S o k j w s (answer_no a) (answer_bad a) (hear_out S o k j w s)
hear_call S o k j w s =
    let a = hear_answer S o k j w s in
    let order = gives (hear_checks S o k j w s) a (hear_decided S o k j w s).by in
    record {
      order = order;
      no_bad = none_named a (not_given (hear_checks S o k j w s) (answer_no a) 4 tt (λ e. omega arith) order);
      granted = λ e. rw (written a (changed S o k j w s) s e) (word_heard S o k j w s (done_of a e));
      nothing = unchanged a (changed S o k j w s) s;
    }
