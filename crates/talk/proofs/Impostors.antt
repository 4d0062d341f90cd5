-- Impostors: what no functions do whose numbers and lent bytes are as the records of the calls say. Those that demand 3 has to exclude are excluded
-- by its sentences, on any map (`holds_near`, `hears_settled`, `counts_invented`); case 11 of 01 is a map on which nothing is left of them.
-- Assumes nothing.
use mathlib.Core.Path.{◌≡◌, refl, sym, ap, ◌∙◌, subst}
use mathlib.Core.Logic.{◌≢◌}
use mathlib.Core.List.{List, [], ◌∷◌}
use Prim.Native.Nat.{ℕ, ◌<◌}
use native.Mathlib.Nat.{le_refl}
use native.Mathlib.Omega.{arith}
use lib.Dec.{T}
use lib.ListN.{length, replicate}
use Rattle.mesh.specs.Mesh.{sizes, nodes, place_of}
use Rattle.mesh.specs.Cells.{Map, map_of}
use Rattle.mesh.specs.Answers.{answer_no, answer_bad}
use Rattle.rules.specs.Marks.{heading, byte_of, marked, stuck_within, stuck, mark_at}
use Rattle.mesh.specs.declared.Sizes.{Sizes}
use Rattle.mesh.proofs.Tests.{T-and}
use Rattle.talk.specs.State.{own, works_node}
use Rattle.talk.specs.Hear.{outstanding_on}
use Rattle.talk.specs.Entries.{fresh_answer, fresh_out, sound_answer, outstanding_answer, hear_answer, hear_out}
use Rattle.talk.specs.Rounds.{Call, hearing, asking, making, after, run, keeps, stretch, FullRounds, none, more}
use Rattle.talk.specs.Promise.{enough_rounds, hear_refusal, count_refusal, count_of, Settled, Promise}
use Rattle.talk.specs.Calls.{FreshCall, SoundCall, OutstandingCall, HearCall}
use Rattle.talk.proofs.Computed.{computed}
use Rattle.talk.proofs.Later.{later_refl, making_kept}
use Rattle.talk.proofs.Promise.{made_promise}
use Rattle.talk.proofs.Entries.{fresh_call, sound_call, outstanding_call, hear_call}
use Rattle.talk.proofs.Unique.{fresh_only, sound_only, outstanding_only, hear_only}

-- ---- case 11: "4 × 4 × 1 with (2,1), (1,2), (0,2) faulty, orientation 0: fresh, 4 outstanding", node 4 hears 2 from direction 0, 5 outstanding

abbrev S : Sizes
S = sizes 4 4 1

abbrev cells : List ℕ
cells = 0 ∷ 0 ∷ 0 ∷ 0 ∷ 0 ∷ 0 ∷ 1 ∷ 0 ∷ 1 ∷ 1 ∷ 0 ∷ 0 ∷ 0 ∷ 0 ∷ 0 ∷ 0 ∷ []

abbrev m : Map
m = map_of S cells

-- lent bytes that are no state
abbrev lent : List ℕ
lent = replicate 112 9

abbrev start : List ℕ
start = fresh_out S cells 0 lent

abbrev next : List ℕ
next = hear_out S 0 4 0 2 start

made : answer_no (fresh_answer S cells 0 112) ≡ 0
unfolding computed
made = refl

narrow : answer_no (fresh_answer (sizes 1 16 1) cells 0 112) ≡ 1
unfolding computed
narrow = refl

four : count_of S 0 start ≡ 4
unfolding computed
four = refl

granted_four : count_refusal S 0 start ≡ 0
unfolding computed
granted_four = refl

five : count_of S 0 next ≡ 5
unfolding computed
five = refl

taken : hear_refusal S 0 4 0 2 start ≡ 0
unfolding computed
taken = refl

not_held : hear_refusal S 0 4 0 4 start ≡ 8
unfolding computed
not_held = refl

sound_start : answer_no (sound_answer S 0 start) ≡ 0
unfolding computed
sound_start = refl

unsound_lent : answer_no (sound_answer S 0 lent) ≡ 6
unfolding computed
unsound_lent = refl

-- node 4 is useless, by node 5, which failed neighbours make useless; they do not make node 4 so
useless : mark_at m 0 (place_of S 4) ≡ 2
unfolding computed marked stuck_within stuck mark_at
useless = refl

not_yet : byte_of (λ a. stuck_within 1 m (heading 0 a) (place_of S 4)) ≡ 0
unfolding computed marked stuck_within
not_yet = refl

works_4 : T (works_node m 4)
unfolding computed
works_4 = tt

-- ---- making a fresh state

module _ (refusal bad : Sizes → List ℕ → ℕ → List ℕ → ℕ) (out : Sizes → List ℕ → ℕ → List ℕ → List ℕ)
    (meets : (S : Sizes) (cells : List ℕ) (o : ℕ) (old : List ℕ)
    → FreshCall S cells o old (refusal S cells o old) (bad S cells o old) (out S cells o old)) where
  fresh_is : (S : Sizes) (cells : List ℕ) (o : ℕ) (old : List ℕ) → refusal S cells o old ≡ answer_no (fresh_answer S cells o (length old))
  fresh_is S cells o old =
      let a = fresh_answer S cells o (length old) in
      (fresh_only S cells o old (refusal S cells o old) (answer_no a) (bad S cells o old) (answer_bad a) (out S cells o old) (fresh_out S cells o old)
      (meets S cells o old) (fresh_call S cells o old)).0

  pub fresh_refusing : ((S : Sizes) (cells : List ℕ) (o : ℕ) (old : List ℕ) → refusal S cells o old ≢ 0) → ⊥
  fresh_refusing f = f S cells 0 lent (fresh_is S cells 0 lent ∙ made)

  pub fresh_constant : (n : ℕ) → ((S : Sizes) (cells : List ℕ) (o : ℕ) (old : List ℕ) → refusal S cells o old ≡ n) → ⊥
  fresh_constant n f =
      let d = sym (f S cells 0 lent) ∙ fresh_is S cells 0 lent ∙ made in
      let e = sym (f (sizes 1 16 1) cells 0 lent) ∙ fresh_is (sizes 1 16 1) cells 0 lent ∙ narrow in
      omega arith

  -- node 4 holds 0 in a fresh state, and 9 stands in what is lent
  pub fresh_untouched : ((S : Sizes) (cells : List ℕ) (o : ℕ) (old : List ℕ) → out S cells o old ≡ old) → ⊥
  fresh_untouched f =
      let e : own (out S cells 0 lent) 4 ≡ 9 = ap (λ (l : List ℕ). own l 4) (f S cells 0 lent) in
      let z = ((meets S cells 0 lent).granted (fresh_is S cells 0 lent ∙ made)).near 4 (omega arith) works_4 ∙ not_yet in
      omega arith

  -- one whose fresh state already holds every mark. "Fresh nodes know only failed neighbours" (`near`): a mark that it holds is one that they give;
  pub holds_near : (m : Map) (o : ℕ) (old : List ℕ) → refusal m.sizes m.cells o old ≡ 0 → (k : ℕ) → k < nodes m.sizes → T (works_node m k)
      → own (out m.sizes m.cells o old) k ≡ mark_at m o (place_of m.sizes k)
      → mark_at m o (place_of m.sizes k) ≡ byte_of λ a. stuck_within 1 m (heading o a) (place_of m.sizes k)
  holds_near m o old g k l w e = sym e ∙ ((meets m.sizes m.cells o old).granted g).near k l w

  -- and on case 11 they do not give node 4 its mark.
  pub fresh_all_marks : ((S : Sizes) (cells : List ℕ) (o : ℕ) (old : List ℕ) → refusal S cells o old ≡ 0 → (k : ℕ) → k < nodes S
      → own (out S cells o old) k ≡ mark_at (map_of S cells) o (place_of S k)) → ⊥
  fresh_all_marks f =
      let g = fresh_is S cells 0 lent ∙ made in
      let h : own (out S cells 0 lent) 4 ≡ mark_at m 0 (place_of S 4) = f S cells 0 lent g 4 (omega arith) in
      let z : ◌≡◌ {A = ℕ} 2 0 = sym useless ∙ holds_near m 0 lent g 4 (omega arith) works_4 h ∙ not_yet in
      omega arith

-- ---- hearing

-- one that leaves the state untouched, or whose hearing only pretends: "2 × W + 1 full rounds settle it" (`settles`), so all was settled before
module _ (m : Map) (o : ℕ) (s : List ℕ) (pretends : (k j w : ℕ) → hear_out m.sizes o k j w s ≡ s) where
  call_same : (c : Call) → T (keeps m.sizes o s c) → after m.sizes o s c ≡ s
  call_same (hearing k j w) t = pretends k j w
  call_same asking t = refl
  call_same (making cells) t = making_kept m.sizes o s cells t

  run_same : (cs : List Call) → T (stretch m.sizes o s cs) → run m.sizes o s cs ≡ s
  run_same [] t = refl
  run_same (c ∷ cs) t =
      let (k, r) = (T-and (keeps m.sizes o s c) (stretch m.sizes o (after m.sizes o s c) cs)).0 t in
      let e = call_same c k in
      rw e (run_same cs (rw e at r))

  rounds_same : (t : List ℕ) {n : ℕ} {u : List ℕ} → u ≡ s → FullRounds m o t n u → t ≡ s
  rounds_same t e none = e
  rounds_same t {u = u} e (more cs f r) =
      rounds_same t (ap (λ (v : List ℕ). run m.sizes o v cs) e ∙ run_same cs (subst (λ (v : List ℕ). T (stretch m.sizes o v cs)) e f.kept)) r

  pub untouched : Promise m o s → Settled m o s
  untouched p =
      let l = later_refl m.sizes o s in
      let (t, r) = p.rounds s l (enough_rounds m) in
      subst (Settled m o) (rounds_same t refl r) (p.settles s l t (enough_rounds m) (le_refl (enough_rounds m)) r)

module _ (refusal bad : Sizes → ℕ → ℕ → ℕ → ℕ → List ℕ → ℕ) (out : Sizes → ℕ → ℕ → ℕ → ℕ → List ℕ → List ℕ)
    (meets : (S : Sizes) (o k j w : ℕ) (s : List ℕ) → HearCall S o k j w s (refusal S o k j w s) (bad S o k j w s) (out S o k j w s)) where
  hear_is : (S : Sizes) (o k j w : ℕ) (s : List ℕ) → (refusal S o k j w s ≡ hear_refusal S o k j w s) × (out S o k j w s ≡ hear_out S o k j w s)
  hear_is S o k j w s =
      let (n, _, e) = hear_only S o k j w s (refusal S o k j w s) (hear_refusal S o k j w s) (bad S o k j w s) (answer_bad (hear_answer S o k j w s))
      (out S o k j w s) (hear_out S o k j w s) (meets S o k j w s) (hear_call S o k j w s) in
      (n, e)

  pub hears_settled : (m : Map) (o : ℕ) (s : List ℕ) → Promise m o s → ((k j w : ℕ) → out m.sizes o k j w s ≡ s) → Settled m o s
  hears_settled m o s p f = untouched m o s (λ k j w. sym (hear_is m.sizes o k j w s).1 ∙ f k j w) p

  -- and on case 11 four words are outstanding
  pub hears_untouched : ((S : Sizes) (o k j w : ℕ) (s : List ℕ) → out S o k j w s ≡ s) → ⊥
  hears_untouched f =
      let z : ◌≡◌ {A = ℕ} 4 0 = sym four ∙ (hears_settled m 0 start (made_promise S cells 0 lent made).1 (λ k j w. f S 0 k j w start)).1 in
      omega arith

  -- one that refuses everything changes nothing
  pub hears_refusing : ((S : Sizes) (o k j w : ℕ) (s : List ℕ) → refusal S o k j w s ≢ 0) → ⊥
  hears_refusing f = hears_untouched λ S o k j w s. (meets S o k j w s).nothing (f S o k j w s)

  pub hears_constant : (n : ℕ) → ((S : Sizes) (o k j w : ℕ) (s : List ℕ) → refusal S o k j w s ≡ n) → ⊥
  hears_constant n f =
      let d = sym (f S 0 4 0 2 start) ∙ (hear_is S 0 4 0 2 start).0 ∙ taken in
      let e = sym (f S 0 4 0 4 start) ∙ (hear_is S 0 4 0 4 start).0 ∙ not_held in
      omega arith

-- ---- the number outstanding

module _ (refusal bad count : Sizes → ℕ → List ℕ → ℕ)
    (meets : (S : Sizes) (o : ℕ) (s : List ℕ) → OutstandingCall S o s (refusal S o s) (bad S o s) (count S o s)) where
  count_is : (S : Sizes) (o : ℕ) (s : List ℕ) → (refusal S o s ≡ count_refusal S o s) × (count S o s ≡ count_of S o s)
  count_is S o s =
      let (n, _, e) = outstanding_only S o s (refusal S o s) (count_refusal S o s) (bad S o s) (answer_bad (outstanding_answer S o s))
      (count S o s) (count_of S o s) (meets S o s) (outstanding_call S o s) in
      (n, e)

  -- one that invents the count: "the number outstanding is exact" (`exact`)
  pub counts_invented : (m : Map) (o : ℕ) (s : List ℕ) → Promise m o s → count m.sizes o s ≢ outstanding_on m s → ⊥
  counts_invented m o s p f = f ((count_is m.sizes o s).1 ∙ (p.exact s (later_refl m.sizes o s)).1)

  pub counts_refusing : ((S : Sizes) (o : ℕ) (s : List ℕ) → refusal S o s ≢ 0) → ⊥
  counts_refusing f = f S 0 start ((count_is S 0 start).0 ∙ granted_four)

  pub counts_constant : (n : ℕ) → ((S : Sizes) (o : ℕ) (s : List ℕ) → count S o s ≡ n) → ⊥
  counts_constant n f =
      let d = sym (f S 0 start) ∙ (count_is S 0 start).1 ∙ four in
      let e = sym (f S 0 next) ∙ (count_is S 0 next).1 ∙ five in
      omega arith

-- ---- the question whether a state is sound

module _ (refusal bad : Sizes → ℕ → List ℕ → ℕ) (meets : (S : Sizes) (o : ℕ) (s : List ℕ) → SoundCall S o s (refusal S o s) (bad S o s)) where
  sound_is : (S : Sizes) (o : ℕ) (s : List ℕ) → refusal S o s ≡ answer_no (sound_answer S o s)
  sound_is S o s =
      let a = sound_answer S o s in
      (sound_only S o s (refusal S o s) (answer_no a) (bad S o s) (answer_bad a) (meets S o s) (sound_call S o s)).0

  pub sound_refusing : ((S : Sizes) (o : ℕ) (s : List ℕ) → refusal S o s ≢ 0) → ⊥
  sound_refusing f = f S 0 start (sound_is S 0 start ∙ sound_start)

  pub sound_constant : (n : ℕ) → ((S : Sizes) (o : ℕ) (s : List ℕ) → refusal S o s ≡ n) → ⊥
  sound_constant n f =
      let d = sym (f S 0 start) ∙ sound_is S 0 start ∙ sound_start in
      let e = sym (f S 0 lent) ∙ sound_is S 0 lent ∙ unsound_lent in
      omega arith
