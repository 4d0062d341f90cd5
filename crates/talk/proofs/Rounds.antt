-- W + 1 full rounds settle the nodes: a round that adds no mark of a kind leaves no word unheard that holds one, at most W marks of a kind are
-- to be added, and the same rounds serve both kinds. Assumes nothing.
use mathlib.Core.Path.{◌≡◌, refl}
use mathlib.Core.Logic.{◌⊎◌, inl, inr}
use mathlib.Core.Bool.{Bool, true, false, not, ◌&&◌}
use mathlib.Core.List.{List}
use Prim.Native.Nat.{ℕ, ◌+◌, ◌<◌, ◌≤◌}
use native.Mathlib.Omega.{arith}
use native.Mathlib.Decide.{dec_lt}
use lib.Dec.{T, eqb}
use Rattle.mesh.specs.Tools.{bit, count}
use Rattle.mesh.specs.Mesh.{in_range, nodes}
use Rattle.mesh.specs.Steps.{neighbour}
use Rattle.mesh.specs.Cells.{Map}
use Rattle.rules.specs.Marks.{Kind, has}
use Rattle.mesh.specs.declared.Sizes.{Sizes}
use Rattle.mesh.proofs.Tests.{T-and, T-eq, bool_ext}
use Rattle.mesh.proofs.Tables.{sum_zero, count_mono, count_tight}
use Rattle.rules.proofs.Bytes.{word_same}
use Rattle.talk.specs.State.{own, heard, works_node, pair, says}
use Rattle.talk.specs.Sound.{SoundOn}
use Rattle.talk.specs.Hear.{news, outstanding_on}
use Rattle.talk.specs.Rounds.{Call, run, FullRound, FullRounds, none, more}
use Rattle.talk.specs.Promise.{workers, fewer_rounds}
use Rattle.talk.proofs.State.{pair_talks, speaker_lt, speaker_works}
use Rattle.talk.proofs.Same.{works_word}
use Rattle.talk.proofs.Later.{Grown, later_grown, rounds_later, round_hears}
use Rattle.talk.proofs.Shown.{AllHeard, stays}

-- no news where the two bytes are the same
same_news : (a : Bool) (v w : ℕ) → (T a → v ≡ w) → bit (a && not (eqb v w)) ≡ 0
same_news true v w f = go (eqb v w) ((T-eq v w).1 (f tt))
  where
    go : (b : Bool) → T b → bit (not b) ≡ 0
    go true t = refl
    go false t = absurd t
same_news false v w f = refl

module _ (m : Map) (o : ℕ) where
  abbrev S : Sizes
  S = m.sizes

  -- nothing is outstanding once both kinds are heard
  pub all_heard : (s : List ℕ) → SoundOn m o s → ((a : Kind) → AllHeard m o a s) → outstanding_on m s ≡ 0
  unfolding outstanding_on
  all_heard s z f = sum_zero (nodes S) (λ k. count 6 (news m s k)) λ k _. sum_zero 6 (λ j. bit (news m s k j)) λ j _.
      same_news (pair m k j) (says S s k j) (heard s k j) λ t.
      let r = pair_talks m k j t in
      let word = works_word m o s z (neighbour S k j) (speaker_lt m k j r) (speaker_works m k j r) in
      word_same (says S s k j) (heard s k j) word (z.words k j t).0 λ a.
      bool_ext (has (says S s k j) a) (has (heard s k j) a) (f a k j t) ((z.words k j t).1 a)

  module _ (a : Kind) where
    -- the working nodes that hold a mark of this kind, and how many they are
    abbrev holder : List ℕ → ℕ → Bool
    holder s k = works_node m k && has (own s k) a

    abbrev holders : List ℕ → ℕ
    holders s = count (nodes S) (holder s)

    holders_le : (s : List ℕ) → holders s ≤ workers m
    holders_le s = count_mono (nodes S) (holder s) (works_node m) λ k _ t. ((T-and (works_node m k) (has (own s k) a)).0 t).0

    -- calls that add none add none anywhere
    holders_same : (s t : List ℕ) → Grown m o s t → holders t ≤ holders s → (k : ℕ) → k < nodes S → T (works_node m k)
        → T (has (own t k) a) → T (has (own s k) a)
    holders_same s t g h k l w x =
        let grow : (k : ℕ) → k < nodes S → T (holder s k) → T (holder t k) = λ k _ q.
        let (v, y) = (T-and (works_node m k) (has (own s k) a)).0 q in (T-and (works_node m k) (has (own t k) a)).1 (v, g.owns k a y) in
        ((T-and (works_node m k) (has (own s k) a)).0
        (count_tight (nodes S) (holder s) (holder t) grow h k l ((T-and (works_node m k) (has (own t k) a)).1 (w, x)))).1

    module _ (fit : T (in_range m.sizes)) (o_le : o ≤ 7) where
      -- a round that adds none leaves none unheard
      round_settles : (s : List ℕ) (cs : List Call) → SoundOn m o s → FullRound m o s cs → Grown m o s (run S o s cs)
          → holders (run S o s cs) ≤ holders s → AllHeard m o a (run S o s cs)
      round_settles s cs z f g h k j t x =
          let r = pair_talks m k j t in
          round_hears m o fit o_le s cs z f k j t a
          (holders_same s (run S o s cs) g h (neighbour S k j) (speaker_lt m k j r) (speaker_works m k j r) x)

      -- so n rounds add n of them, unless all are heard
      rounds : (t : List ℕ) {n : ℕ} {s : List ℕ} → SoundOn m o s → FullRounds m o t n s → AllHeard m o a t ⊎ (holders s + n ≤ holders t)
      rounds t z none = inr (omega arith)
      rounds t {s = s} z (more {n = n} cs f r) =
          let u = run S o s cs in
          let g = later_grown m o fit o_le s u z (record { calls = cs; kept = f.kept; ends = refl }) in
          elim (rounds t g.sound r) [
            | inl h ↦ inl h
            | inr h ↦ elim (dec_lt (holders s) (holders u)) [
              | yes l ↦ inr (omega arith)
              | no q ↦ inl (stays m o a u t g.sound (round_settles s cs z f g (omega arith))
                  (later_grown m o fit o_le u t g.sound (rounds_later m o t r)))
            ]
          ]

  pub rounds_settle : T (in_range m.sizes) → o ≤ 7 → (s t : List ℕ) (n : ℕ) → SoundOn m o s → fewer_rounds m ≤ n → FullRounds m o t n s
      → outstanding_on m t ≡ 0
  rounds_settle fit o_le s t n z l r =
      all_heard t (later_grown m o fit o_le s t z (rounds_later m o t r)).sound λ a. elim (rounds a fit o_le t z r) [
        | inl h ↦ h
        | inr h ↦ absurd (omega (arith, holders_le a t))
      ]
