-- Any two outcomes that a call's record allows are one: what it says fixes every number and every lent byte. Assumes nothing.
use mathlib.Core.Path.{◌≡◌, refl, sym, ◌∙◌, subst}
use mathlib.Core.Logic.{◌≢◌, inl, inr}
use mathlib.Core.List.{List}
use Prim.Native.Nat.{ℕ, ◌+◌, ◌-◌, ◌*◌, ◌/◌, ◌%◌, ◌<◌}
use native.Mathlib.Omega.{arith}
use native.Mathlib.Decide.{ℕ_discrete}
use lib.Dec.{T}
use lib.ListN.{length, get_or}
use lib.Seq.{ext_get_or}
use Rattle.mesh.specs.Mesh.{nodes, place_of}
use Rattle.mesh.specs.Steps.{next}
use Rattle.mesh.specs.Cells.{Map, map_of, wall, state_length}
use Rattle.rules.specs.Marks.{has}
use Rattle.mesh.specs.declared.Sizes.{Sizes}
use Rattle.mesh.proofs.Tests.{tried, bool_ext}
use Rattle.mesh.proofs.Order.{one_number, bad_one}
use Rattle.rules.proofs.Bytes.{word_same}
use Rattle.talk.specs.State.{own, heard, SameAt, faulty_node, works_node}
use Rattle.talk.specs.Sound.{SoundOn}
use Rattle.talk.specs.Promise.{FreshPromise}
use Rattle.talk.specs.Calls.{fresh_checks, FreshCall, sound_checks, SoundCall, OutstandingCall, WordHeard, hear_checks, HearCall}
use Rattle.talk.proofs.State.{talks_pair}
use Rattle.talk.proofs.Same.{sound_on}
use Rattle.talk.proofs.Rule.{ruled_same}
use Rattle.std.specs.Prelude.{Some, None, Option}
use Rattle.mesh.specs.declared.Place.{Place}

-- ---- the bytes of a fresh state

-- a state is the seven bytes of each of its nodes
same_state : (S : Sizes) (s t : List ℕ) → length s ≡ state_length S → length t ≡ state_length S
    → ((k : ℕ) → k < nodes S → SameAt k s t) → s ≡ t
same_state S s t l h f = ext_get_or 0 s t (l ∙ sym h) λ i q.
    let e = f (i / 7) (omega arith) in
    elim (ℕ_discrete (i % 7) 0) [
      | yes z ↦ let p : 7 * (i / 7) ≡ i = omega arith in subst (λ (n : ℕ). get_or s n 0 ≡ get_or t n 0) p e.0
      | no z ↦
          let p : 7 * (i / 7) + 1 + (i % 7 - 1) ≡ i = omega arith in
          subst (λ (n : ℕ). get_or s n 0 ≡ get_or t n 0) p (e.1 (i % 7 - 1) (omega arith))
    ]

module _ (m : Map) (o : ℕ) (s t : List ℕ) (p : FreshPromise m o s) (q : FreshPromise m o t) where
  abbrev zs : SoundOn m o s
  zs = sound_on m o s p.sound p.state

  abbrev zt : SoundOn m o t
  zt = sound_on m o t q.sound q.state

  heard_one : (k j : ℕ) → k < nodes m.sizes → T (works_node m k) → j < 6 → heard s k j ≡ heard t k j
  heard_one k j l w h = go (next m.sizes (place_of m.sizes k) j) refl
    where
      go : (n : Option Place) → next m.sizes (place_of m.sizes k) j ≡ n → heard s k j ≡ heard t k j
      go None e = zs.edge k j l w h e ∙ sym (zt.edge k j l w h e)
      go (Some r) e = elim (tried (wall m (place_of m.sizes k) j r)) [
        | inl b ↦ zs.walled k j r l w e b ∙ sym (zt.walled k j r l w e b)
        | inr f ↦
            let x = talks_pair m k j (record { lt = l; works_k = w; speaker = r; there = e; free = f }) in
            p.silent k j x ∙ sym (q.silent k j x)
      ]

  fresh_one : s ≡ t
  fresh_one = same_state m.sizes s t zs.long zt.long λ k l. elim (tried (faulty_node m k)) [
    | inl f ↦ let (a, b) = zs.failed k l f in let (c, d) = zt.failed k l f in (a ∙ sym c, λ j h. b j h ∙ sym (d j h))
    | inr w ↦ (p.near k l w ∙ sym (q.near k l w), λ j h. heard_one k j l w h)
  ]

-- ---- the bytes after a word

word_one : (S : Sizes) (o k j w : ℕ) (old s t : List ℕ) → WordHeard S o k j w old s → WordHeard S o k j w old t → s ≡ t
word_one S o k j w old s t p q = ext_get_or 0 s t (p.long ∙ sym q.long) λ i _. elim (ℕ_discrete i (7 * k)) [
  | yes e ↦ rw e own_same
  | no n ↦ elim (ℕ_discrete i (7 * k + 1 + j)) [ yes e ↦ rw e (heard_same j) | no h ↦ p.others i n h ∙ sym (q.others i n h) ]
]
  where
    heard_same : (i : ℕ) → heard s k i ≡ heard t k i
    heard_same i = elim (ℕ_discrete i j) [
      | yes e ↦ rw e (word_same (heard s k j) (heard t k j) p.word q.word λ a.
          bool_ext (has (heard s k j) a) (has (heard t k j) a) (λ x. (q.adds a).1 ((p.adds a).0 x)) (λ x. (p.adds a).1 ((q.adds a).0 x)))
      | no n ↦ p.others (7 * k + 1 + i) (omega arith) (omega arith) ∙ sym (q.others (7 * k + 1 + i) (omega arith) (omega arith))
    ]

    own_same : own s k ≡ own t k
    own_same = p.ruled ∙ ruled_same S o (heard s k) (heard t k) (λ i _. heard_same i) ∙ sym q.ruled

-- ---- the four calls

-- values of two outcomes with one refusal: alike where it is 0, and alike where it is not
alike : {A : Type 0} (x y : A) (n : ℕ) → (n ≡ 0 → x ≡ y) → (n ≢ 0 → x ≡ y) → x ≡ y
alike x y n f g = elim (ℕ_discrete n 0) [ yes e ↦ f e | no h ↦ g h ]

pub fresh_only : (S : Sizes) (cells : List ℕ) (o : ℕ) (old : List ℕ) (n n' b b' : ℕ) (s t : List ℕ)
    → FreshCall S cells o old n b s → FreshCall S cells o old n' b' t → (n ≡ n') × (b ≡ b') × (s ≡ t)
fresh_only S cells o old n n' b b' s t p q =
    let e = one_number (fresh_checks S cells o old) n n' p.order q.order in (
      e,
      bad_one S cells n b b' p.names_bad (rw e q.names_bad),
      alike s t n
          (λ z. fresh_one (map_of S cells) o s t (p.granted z) (q.granted (sym e ∙ z)))
          (λ z. p.nothing z ∙ sym (q.nothing λ y. z (e ∙ y))),
    )

pub sound_only : (S : Sizes) (o : ℕ) (s : List ℕ) (n n' b b' : ℕ) → SoundCall S o s n b → SoundCall S o s n' b' → (n ≡ n') × (b ≡ b')
sound_only S o s n n' b b' p q = (one_number (sound_checks S o s) n n' p.order q.order, p.no_bad ∙ sym q.no_bad)

pub outstanding_only : (S : Sizes) (o : ℕ) (s : List ℕ) (n n' b b' c c' : ℕ) → OutstandingCall S o s n b c → OutstandingCall S o s n' b' c'
    → (n ≡ n') × (b ≡ b') × (c ≡ c')
outstanding_only S o s n n' b b' c c' p q =
    let e = one_number (sound_checks S o s) n n' p.order q.order in (
      e,
      p.no_bad ∙ sym q.no_bad,
      alike c c' n (λ z. p.granted z ∙ sym (q.granted (sym e ∙ z))) (λ z. p.nothing z ∙ sym (q.nothing λ y. z (e ∙ y))),
    )

pub hear_only : (S : Sizes) (o k j w : ℕ) (old : List ℕ) (n n' b b' : ℕ) (s t : List ℕ)
    → HearCall S o k j w old n b s → HearCall S o k j w old n' b' t → (n ≡ n') × (b ≡ b') × (s ≡ t)
hear_only S o k j w old n n' b b' s t p q =
    let e = one_number (hear_checks S o k j w old) n n' p.order q.order in (
      e,
      p.no_bad ∙ sym q.no_bad,
      alike s t n
          (λ z. word_one S o k j w old s t (p.granted z) (q.granted (sym e ∙ z)))
          (λ z. p.nothing z ∙ sym (q.nothing λ y. z (e ∙ y))),
    )
