-- One kind of mark. What so many steps ahead show of the speakers makes a node, once it is heard, hold what one step more shows of it; so once
-- every mark of the kind is heard, no call adds one. Assumes nothing.
use mathlib.Core.Path.{◌≡◌}
use mathlib.Core.Logic.{inl, inr}
use mathlib.Core.List.{List}
use Prim.Native.Nat.{ℕ, zero, suc, ◌+◌, ◌<◌}
use lib.Dec.{T, eqb}
use Rattle.mesh.specs.Mesh.{nodes, place_of}
use Rattle.mesh.specs.Steps.{next, ahead, neighbour}
use Rattle.mesh.specs.Cells.{Map, wall}
use Rattle.rules.specs.Marks.{Kind, heading, has, rule, blocks, stuck_within, stuck, byte_blocks, rule_byte}
use Rattle.mesh.specs.declared.Sizes.{Sizes}
use Rattle.mesh.specs.declared.Place.{Place}
use Rattle.mesh.proofs.Tests.{T-or, tried, holds_true}
use Rattle.mesh.proofs.Numbers.{place_of_lem}
use Rattle.rules.proofs.Rule.{rule_iff, blocks_read, marked_iff}
use Rattle.rules.proofs.Bytes.{has_byte, one_blocks}
use Rattle.talk.specs.State.{own, heard, works_node, pair, says}
use Rattle.talk.specs.Sound.{SoundOn}
use Rattle.talk.proofs.State.{Talks, pair_talks, talks_pair, speaker_in, speaker_is, speaker_lt}
use Rattle.talk.proofs.Later.{Grown}
use Rattle.talk.proofs.Exact.{no_more}
use Rattle.std.specs.Prelude.{Some}

module _ (m : Map) (o : ℕ) (a : Kind) where
  abbrev S : Sizes
  S = m.sizes

  -- what i steps ahead show of a speaker has been heard
  abbrev pub Shown : ℕ → List ℕ → Type 0
  Shown i s = (k j : ℕ) → T (pair m k j) → T (stuck_within i m (heading o a) (place_of S (neighbour S k j))) → T (has (heard s k j) a)

  -- then what one step more shows of a node is held by it
  module _ (i : ℕ) (s : List ℕ) (z : SoundOn m o s) (h : Shown i s) (k : ℕ) (l : k < nodes S) where
    module _ (w : T (works_node m k)) where
      by_wall : (j : ℕ) (q : Place) → next S (place_of S k) j ≡ Some q → T (wall m (place_of S k) j q) → T (byte_blocks (heard s k j) a)
      by_wall j q e x = rw (z.walled k j q l w e x) ((holds_true (byte_blocks 1 a)).1 (one_blocks a))

      by_word : (j : ℕ) (t : Talks m k j) → T (stuck_within i m (heading o a) t.speaker) → T (byte_blocks (heard s k j) a)
      unfolding byte_blocks
      by_word j t x =
          let e : place_of S (neighbour S k j) ≡ t.speaker = rw (speaker_is m k j t) (place_of_lem S t.speaker (speaker_in m k j t)) in
          (T-or (eqb (heard s k j) 1) (has (heard s k j) a)).1 (inr (h k j (talks_pair m k j t) (rw e x)))

      blocked : (j : ℕ) → T (blocks m (stuck_within i m (heading o a)) (place_of S k) j) → T (byte_blocks (heard s k j) a)
      blocked j t =
          let (q, e, b) = (blocks_read m (stuck_within i m (heading o a)) (place_of S k) j).0 t in
          elim b [
            | inl x ↦ by_wall j q e x
            | inr x ↦ elim (tried (wall m (place_of S k) j q)) [
              | inl y ↦ by_wall j q e y
              | inr f ↦ by_word j (record { lt = l; works_k = w; speaker = q; there = e; free = f }) x
            ]
          ]

    pub shown_held : T (stuck_within (suc i) m (heading o a) (place_of S k)) → T (has (own s k) a)
    unfolding stuck_within rule_byte
    shown_held t =
        let (w, r) = (marked_iff m (heading o a) (stuck_within i m (heading o a)) (place_of S k)).0 t in
        rw (z.ruled k l w, has_byte (λ a. rule S (heading o a) λ j. byte_blocks (heard s k j) a) a)
        ((rule_iff S (heading o a) (λ j. byte_blocks (heard s k j) a)).1 λ x c. blocked w (ahead (heading o a) x) (r x c))

  -- every mark of this kind that is to be heard is heard
  abbrev pub AllHeard : List ℕ → Type 0
  AllHeard s = (k j : ℕ) → T (pair m k j) → T (has (says S s k j) a) → T (has (heard s k j) a)

  -- so all that the rules give is, since no walk ahead is longer
  all_shown : (i : ℕ) (s : List ℕ) → SoundOn m o s → AllHeard s → Shown i s
  unfolding stuck_within
  all_shown zero s z f k j t x = absurd x
  all_shown (suc i) s z f k j t x =
      f k j t (shown_held i s z (all_shown i s z f) (neighbour S k j) (speaker_lt m k j (pair_talks m k j t)) x)

  -- and no call adds one
  pub stays : (s t : List ℕ) → SoundOn m o s → AllHeard s → Grown m o s t → AllHeard t
  unfolding stuck
  stays s t z f g k j r x =
      let given = no_more m o t g.sound (neighbour S k j) (speaker_lt m k j (pair_talks m k j r)) a x in
      g.hears k j r a (all_shown (S.w + S.h + S.d) s z f k j r given)
