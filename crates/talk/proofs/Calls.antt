-- When a call on a state is granted, and what it then does. Assumes nothing.
use mathlib.Core.Path.{◌≡◌, refl, sym, ◌∙◌, subst}
use mathlib.Core.Logic.{◌↔◌, ◌≢◌, ◌⊎◌, inl, inr}
use mathlib.Core.Bool.{Bool, true, false, not, ◌&&◌}
use mathlib.Core.List.{List}
use Prim.Native.Nat.{ℕ, ◌+◌, ◌*◌, ◌<◌, ◌≤◌}
use native.Mathlib.Omega.{arith}
use native.Mathlib.Decide.{ℕ_discrete}
use lib.Dec.{T, eqb}
use lib.ListN.{get_or, length}
use Rattle.mesh.specs.Mesh.{in_range, nodes}
use Rattle.mesh.specs.Cells.{Map, state_length}
use Rattle.rules.specs.Marks.{is_word, rule_byte}
use Rattle.mesh.specs.Answers.{answer_no, granted, ◌and_then◌, unless, check_map, check_orientation, check_node, check_direction, accepted, Answer}
use Rattle.mesh.specs.declared.Sizes.{Sizes}
use Rattle.mesh.specs.declared.Refusal.{Refusal}
use Rattle.mesh.proofs.Tests.{T-and, T-eq, T-le, tried}
use Rattle.mesh.proofs.Answers.{kept}
use Rattle.mesh.proofs.Order.{done_of, refused_of}
use Rattle.talk.specs.State.{own, heard, SameAt, map_in, pair, says}
use Rattle.talk.specs.Sound.{◌no_more_than◌, Sound, SoundOn}
use Rattle.talk.specs.Hear.{add_marks, changed, outstanding_on}
use Rattle.talk.specs.Entries.{check_state, check_word, fresh_answer, sound_answer, outstanding_answer, hear_answer, hear_out}
use Rattle.talk.proofs.Decide.{within_iff, sound_iff}
use Rattle.talk.proofs.Same.{on_sound, pair_in, outstanding_in}
use Rattle.talk.proofs.Rule.{ruled_same}
use Rattle.talk.proofs.State.{pair_talks, dir_lt_six}
use Rattle.talk.proofs.Hear.{others_kept, heard_new, own_new, nothing_new}
use Rattle.std.specs.Prelude.{Ok, Err}

-- ---- what is lent, by the number of the answer

pub written : {A : Type 0} (a : Answer) (new old : List A) → answer_no a ≡ 0 → granted a new old ≡ new
written a new old e = rw (done_of a e)

pub unchanged : {A : Type 0} (a : Answer) (new old : List A) → answer_no a ≢ 0 → granted a new old ≡ old
unchanged a new old n = let (r, e) = refused_of a n in kept a r new old e

-- ---- a call is granted exactly where each check is passed

both : (a b : Answer) → (a and_then b ≡ accepted) ↔ ((a ≡ accepted) × (b ≡ accepted))
both (Ok _) b = (λ e. (refl, e), λ e. e.1)
both (Err r) b = (λ e. let z : ◌≡◌ {A = ℕ} 0 1 = cc in absurd (omega arith), λ e. e.0)

passed : (t : Bool) (r : Refusal) → (unless t r ≡ accepted) ↔ T t
passed true r = (λ e. tt, λ t. refl)
passed false r = (λ e. let z : ◌≡◌ {A = ℕ} 0 1 = cc in absurd (omega arith), λ t. absurd t)

pub state_passed : (S : Sizes) (n : ℕ) → (check_state S n ≡ accepted) ↔ (T (in_range S) × (n ≡ state_length S))
unfolding check_state
state_passed S n = simp (check_state, both, passed, T-eq) (λ x. x, λ x. x)

pub numbers_passed : (S : Sizes) (n o k j w : ℕ)
    → (check_state S n and_then check_orientation o and_then check_node S k and_then check_direction j and_then check_word w ≡ accepted)
    ↔ (((((T (in_range S) × (n ≡ state_length S)) × (o ≤ 7)) × (k < nodes S)) × (j ≤ 5)) × T (is_word w))
numbers_passed S n o k j w = simp (state_passed, both, passed, T-le) (λ x. x, λ x. x)

pub fresh_passed : (S : Sizes) (cells : List ℕ) (o n : ℕ) → (fresh_answer S cells o n ≡ accepted)
    ↔ (((T (in_range S) × (n ≡ state_length S)) × (check_map S cells ≡ accepted)) × (o ≤ 7))
unfolding fresh_answer
fresh_passed S cells o n = simp (fresh_answer, state_passed, both, passed, T-le) (λ x. x, λ x. x)

pub sound_passed : (S : Sizes) (o : ℕ) (s : List ℕ) → (sound_answer S o s ≡ accepted)
    ↔ (((T (in_range S) × (length s ≡ state_length S)) × (o ≤ 7)) × Sound S o s)
unfolding sound_answer
sound_passed S o s = simp (sound_answer, state_passed, both, passed, T-le, sound_iff) (λ x. x, λ x. x)

pub hear_passed : (S : Sizes) (o k j w : ℕ) (s : List ℕ) → (hear_answer S o k j w s ≡ accepted)
    ↔ ((((((((T (in_range S) × (length s ≡ state_length S)) × (o ≤ 7)) × (k < nodes S)) × (j ≤ 5)) × T (is_word w)) × Sound S o s)
    × T (pair (map_in S s) k j))
    × (w no_more_than says S s k j))
unfolding hear_answer
hear_passed S o k j w s = simp (hear_answer, state_passed, both, passed, T-le, sound_iff, within_iff) (λ x. x, λ x. x)

-- a call of `hear` is granted or changes nothing
granted_or_not : (S : Sizes) (o k j w : ℕ) (s : List ℕ)
    → ((hear_answer S o k j w s ≡ accepted) × (hear_out S o k j w s ≡ changed S o k j w s)) ⊎ (hear_out S o k j w s ≡ s)
granted_or_not S o k j w s = go (hear_answer S o k j w s)
  where
    go : (a : Answer) → ((a ≡ accepted) × (granted a (changed S o k j w s) s ≡ changed S o k j w s)) ⊎ (granted a (changed S o k j w s) s ≡ s)
    go (Ok _) = inl (refl, refl)
    go (Err r) = inr refl

-- "No other byte changes."
pub alone : (S : Sizes) (o k j w : ℕ) (s : List ℕ) (i : ℕ) → i ≢ 7 * k → i ≢ 7 * k + 1 + j → get_or (hear_out S o k j w s) i 0 ≡ get_or s i 0
alone S o k j w s i n h = elim (granted_or_not S o k j w s) [ inl e ↦ rw e.1 (others_kept S o s k j w i n h) | inr e ↦ rw e ]

-- granted at two states in which the listener holds the same seven bytes, a word leaves it the same seven
pub itself : (S : Sizes) (o k j w : ℕ) (s t : List ℕ) → hear_answer S o k j w s ≡ accepted → hear_answer S o k j w t ≡ accepted
    → SameAt k s t → SameAt k (hear_out S o k j w s) (hear_out S o k j w t)
itself S o k j w s t a b e = rw (a, b) (own_same, heard_same)
  where
    fits : (u : List ℕ) → hear_answer S o k j w u ≡ accepted → (length u ≡ state_length S) × (k < nodes S) × (j < 6)
    fits u d = let q = ((hear_passed S o k j w u).0 d).0.0.0.0 in (q.0.0.0.1, q.0.1, omega arith)

    new : (u : List ℕ) → hear_answer S o k j w u ≡ accepted → heard (changed S o k j w u) k j ≡ add_marks (heard u k j) w
    new u d = let (n, l, h) = fits u d in heard_new S o u k j w n l h

    rules : (u : List ℕ) → hear_answer S o k j w u ≡ accepted → own (changed S o k j w u) k ≡ rule_byte S o (heard (changed S o k j w u) k)
    rules u d = let (n, l, h) = fits u d in own_new S o u k j w n l h

    heard_same : (i : ℕ) → i < 6 → heard (changed S o k j w s) k i ≡ heard (changed S o k j w t) k i
    heard_same i h = elim (ℕ_discrete i j) [
      | yes f ↦ rw (f, new s a, new t b, e.1 j (fits s a).2)
      | no n ↦
          others_kept S o s k j w (7 * k + 1 + i) (omega arith) (omega arith)
          ∙ e.1 i h
          ∙ sym (others_kept S o t k j w (7 * k + 1 + i) (omega arith) (omega arith))
    ]

    own_same : own (changed S o k j w s) k ≡ own (changed S o k j w t) k
    own_same = rules s a ∙ ruled_same S o (heard (changed S o k j w s) k) (heard (changed S o k j w t) k) heard_same ∙ sym (rules t b)

module _ (m : Map) (o : ℕ) (fit : T (in_range m.sizes)) (o_le : o ≤ 7) (s : List ℕ) (z : SoundOn m o s) where
  -- a word that the speaker holds is granted
  pub takes : (k j w : ℕ) → T (pair m k j) → T (is_word w) → w no_more_than says m.sizes s k j → hear_answer m.sizes o k j w s ≡ accepted
  takes k j w t v f =
      let r = pair_talks m k j t in
      let h : j ≤ 5 = omega (arith, dir_lt_six m k j r) in
      let q : T (pair (map_in m.sizes s) k j) = rw (pair_in m o s z k j) t in
      (hear_passed m.sizes o k j w s).1 ((((((((fit, z.long), o_le), r.lt), h), v), on_sound m o s z), q), f)

  pub grants : (k j w : ℕ) → T (pair m k j) → T (is_word w) → w no_more_than says m.sizes s k j
      → hear_out m.sizes o k j w s ≡ changed m.sizes o k j w s
  grants k j w t v f = rw (takes k j w t v f)

  -- and changes nothing where it is late
  pub late : (k j w : ℕ) → T (pair m k j) → T (is_word w) → w no_more_than heard s k j
      → (hear_answer m.sizes o k j w s ≡ accepted) × (hear_out m.sizes o k j w s ≡ s)
  late k j w t v f =
      let r = pair_talks m k j t in
      let (word, held) = z.words k j t in
      let e = takes k j w t v λ a x. held a (f a x) in
      (e, rw e (nothing_new m.sizes o s k j w word (z.ruled k r.lt r.works_k) f))

  -- and only such a word
  pub hears : (k j w : ℕ) → (T (pair m k j) × (w no_more_than says m.sizes s k j) × (hear_out m.sizes o k j w s ≡ changed m.sizes o k j w s))
      ⊎ (hear_out m.sizes o k j w s ≡ s)
  hears k j w = elim (granted_or_not m.sizes o k j w s) [
    | inl e ↦ let (q, f) = (hear_passed m.sizes o k j w s).0 e.0 in inl (rw (pair_in m o s z k j) at q.1, f, e.1)
    | inr e ↦ inr e
  ]

  -- a word that brings no news, or that may not cross, changes nothing
  pub no_news : (k j w : ℕ) → pair m k j && not (eqb (heard s k j) w) ≡ false → hear_out m.sizes o k j w s ≡ s
  no_news k j w old = elim (hears k j w) [
    | inr e ↦ e
    | inl g ↦ let t = g.0 in elim (tried (eqb (heard s k j) w)) [
      | inl q ↦
          let e : heard s k j ≡ w = (T-eq (heard s k j) w).0 q in
          (late k j w t (subst (λ (v : ℕ). T (is_word v)) e (z.words k j t).0) (subst (λ (v : ℕ). v no_more_than heard s k j) e λ a x. x)).1
      | inr n ↦ absurd (subst (λ (b : Bool). T b) old ((T-and (pair m k j) (not (eqb (heard s k j) w))).1 (t, n)))
    ]
  ]

  -- the number outstanding is exact
  pub counts : outstanding_answer m.sizes o s ≡ Ok (outstanding_on m s)
  unfolding outstanding_answer
  counts = rw ((sound_passed m.sizes o s).1 (((fit, z.long), o_le), on_sound m o s z), outstanding_in m o s z)
