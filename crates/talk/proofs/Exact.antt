-- A sound state holds no mark that the rules do not give, and with no word outstanding it holds the mark bytes of the rules. Assumes nothing.
use mathlib.Core.Path.{◌≡◌, refl, sym, ap, ◌∙◌, subst}
use mathlib.Core.Logic.{◌⊎◌, inl, inr}
use mathlib.Core.Bool.{Bool, true, false, not, ◌&&◌}
use mathlib.Core.List.{List}
use Prim.Native.Nat.{ℕ, ◌<◌}
use native.Mathlib.Omega.{arith}
use lib.Dec.{T, eqb, eqb→eq}
use Rattle.mesh.specs.Tools.{bit, sum}
use Rattle.mesh.specs.Mesh.{nodes, number, place_of, Inside}
use Rattle.mesh.specs.Steps.{next, neighbour}
use Rattle.mesh.specs.Cells.{Map, works, wall}
use Rattle.rules.specs.Marks.{Kind, heading, holds, has, is_word, rule, blocks, marked, mark_at, byte_blocks, rule_byte, read_by, read_at}
use Rattle.mesh.specs.declared.Sizes.{Sizes}
use Rattle.mesh.specs.declared.Place.{Place}
use Rattle.mesh.proofs.Tests.{T-and, tried, cond_true, cond_false}
use Rattle.mesh.proofs.Tables.{sum_part}
use Rattle.mesh.proofs.Numbers.{number_lt, number_of, place_in, place_of_lem}
use Rattle.rules.proofs.Stuck.{greatest}
use Rattle.rules.proofs.Bytes.{has_byte, one_none, mark_faulty}
use Rattle.rules.proofs.ByteRule.{byte_rule, bytes_unique}
use Rattle.talk.specs.State.{own, heard, faulty_node, works_node, pair, says}
use Rattle.talk.specs.Sound.{◌no_more_than◌, SoundOn}
use Rattle.talk.specs.Hear.{news, outstanding_on}
use Rattle.talk.proofs.State.{faulty_place, Talks, pair_talks, talks_pair, dir_lt_six, speaker_is, speaker_lt, speaker_works}
use Rattle.talk.proofs.Same.{works_word}
use Rattle.talk.proofs.Rule.{word_blocks, ruled_same, ruled_grows}
use Rattle.std.specs.Prelude.{Some, None, Option}

-- a pair counts as news exactly if its two bytes differ
no_news : (a : Bool) (v w : ℕ) → bit (a && not (eqb v w)) ≡ 0 → T a → v ≡ w
no_news true v w h t = go (eqb v w) (eqb→eq v w) h
  where
    go : (b : Bool) → (T b → v ≡ w) → bit (not b) ≡ 0 → v ≡ w
    go true f e = f tt
    go false f e = omega arith
no_news false v w h t = absurd t

module _ (m : Map) (o : ℕ) (s : List ℕ) (z : SoundOn m o s) where
  abbrev S : Sizes
  S = m.sizes

  abbrev p : ℕ → Place
  p k = place_of S k

  -- the own byte of a place
  abbrev bytes : Place → ℕ
  bytes q = own s (number S q)

  -- what a working node has heard is what it would read of its neighbours' own bytes, but for words that are still to be heard
  pub reads : (k j : ℕ) → k < nodes S → T (works_node m k) → j < 6
      → (heard s k j ≡ read_at m bytes (p k) j) ⊎ (T (pair m k j) × (read_at m bytes (p k) j ≡ says S s k j))
  reads k j l w h = go (next S (p k) j) refl
    where
      go : (n : Option Place) → next S (p k) j ≡ n → (heard s k j ≡ read_at m bytes (p k) j) ⊎ (T (pair m k j) × (read_at m bytes (p k) j ≡ says S s k j))
      go None e = inl (z.edge k j l w h e ∙ sym (ap (read_by m bytes (p k) j) e))
      go (Some q) e = elim (tried (wall m (p k) j q)) [
        | inl b ↦ inl (z.walled k j q l w e b ∙ sym (ap (read_by m bytes (p k) j) e ∙ cond_true (wall m (p k) j q) 1 (bytes q) b))
        | inr f ↦
            let t : Talks m k j = record { lt = l; works_k = w; speaker = q; there = e; free = f } in
            inr (
              talks_pair m k j t,
              ap (read_by m bytes (p k) j) e ∙ cond_false (wall m (p k) j q) 1 (bytes q) f
                  ∙ ap (own s) (sym (speaker_is m k j t)),
            )
      ]

  -- ---- no mark too many

  module _ (k : ℕ) (l : k < nodes S) (w : T (works_node m k)) where
    words_near : (j : ℕ) (q : Place) → next S (p k) j ≡ Some q → T (not (wall m (p k) j q)) → T (is_word (bytes q))
    words_near j q e f =
        let t : Talks m k j = record { lt = l; works_k = w; speaker = q; there = e; free = f } in
        rw (speaker_is m k j t) at (works_word m o s z (neighbour S k j) (speaker_lt m k j t) (speaker_works m k j t))

    -- its own byte holds no mark that its neighbours' own bytes do not give it
    within_read : own s k no_more_than rule_byte S o (read_at m bytes (p k))
    within_read = rw (z.ruled k l w) (ruled_grows S o (heard s k) (read_at m bytes (p k)) λ j h a x. elim (reads k j l w h) [
      | inl e ↦ subst (λ (b : ℕ). T (byte_blocks b a)) e x
      | inr r ↦
          let (t, e) = r in
          let (word, held) = z.words k j t in
          subst (λ (b : ℕ). T (byte_blocks b a)) (sym e) (word_blocks (heard s k j) (says S s k j) word held a x)
    ])

    near_marked : (a : Kind) → T (has (own s k) a) → T (marked m (heading o a) (λ q. has (bytes q) a) (p k))
    unfolding marked
    near_marked a t = (T-and (works m (p k)) (rule S (heading o a) (blocks m (λ q. has (bytes q) a) (p k)))).1 (
      w,
      rw
          (byte_rule m bytes (p k) o words_near, has_byte (λ a. rule S (heading o a) (blocks m (λ q. has (bytes q) a) (p k))) a)
          at (within_read a t),
    )

  holder_works : (k : ℕ) → k < nodes S → (a : Kind) → T (has (own s k) a) → T (works_node m k)
  holder_works k l a t = elim (tried (faulty_node m k)) [ inl f ↦ absurd (one_none a (rw (z.failed k l f).0 at t)) | inr w ↦ w ]

  only_ruled : (a : Kind) (q : Place) → Inside S q → T (has (bytes q) a) → T (marked m (heading o a) (λ n. has (bytes n) a) q)
  only_ruled a q i t =
      let k = number S q in
      let l = number_lt S q i in
      subst (λ (n : Place). T (marked m (heading o a) (λ n. has (bytes n) a) n)) (place_of_lem S q i) (near_marked k l (holder_works k l a t) a t)

  pub no_more : (k : ℕ) → k < nodes S → (a : Kind) → T (has (own s k) a) → T (holds m o (p k) a)
  no_more k l a t = greatest m (heading o a) (λ q. has (bytes q) a) (only_ruled a) (p k) (place_in S k l) (rw (number_of S k) t)

  -- ---- all marks, once every word is heard

  module _ (e : outstanding_on m s ≡ 0) where
    heard_all : (k j : ℕ) → T (pair m k j) → says S s k j ≡ heard s k j
    unfolding outstanding_on
    heard_all k j t =
        let r = pair_talks m k j t in
        let n : ℕ → ℕ → ℕ = λ k j. bit (news m s k j) in
        let none : n k j ≡ 0 = omega (arith, sum_part 6 (n k) j (dir_lt_six m k j r), sum_part (nodes S) (λ k. sum 6 (n k)) k r.lt) in
        no_news (pair m k j) (says S s k j) (heard s k j) none t

    ruled_all : (q : Place) → Inside S q → T (works m q) → bytes q ≡ rule_byte S o (read_at m bytes q)
    ruled_all q i w =
        let k = number S q in
        let l = number_lt S q i in
        let v : T (works_node m k) = rw (faulty_place m q i) w in
        z.ruled k l v
        ∙ ruled_same S o (heard s k) (read_at m bytes (p k)) (λ j h. elim (reads k j l v h) [ inl f ↦ f | inr r ↦ sym (r.1 ∙ heard_all k j r.0) ])
        ∙ ap (λ (n : Place). rule_byte S o (read_at m bytes n)) (place_of_lem S q i)

    pub all_marks : (k : ℕ) → k < nodes S → own s k ≡ mark_at m o (p k)
    all_marks k l = elim (tried (faulty_node m k)) [
      | inl f ↦ (z.failed k l f).0 ∙ sym ((mark_faulty m o (p k)).1 f)
      | inr w ↦ ap (own s) (sym (number_of S k)) ∙ bytes_unique m o bytes ruled_all (p k) (place_in S k l) w
    ]
