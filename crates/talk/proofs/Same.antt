-- Two maps with the same faulty nodes have the same sound states, pairs and outstanding words. So the sound states of a map are those that
-- are sound on it. Assumes nothing.
use mathlib.Core.Path.{◌≡◌, sym, ap, ◌∙◌, subst, fun_ext}
use mathlib.Core.Logic.{inl, inr}
use mathlib.Core.Bool.{Bool, ◌&&◌}
use mathlib.Core.List.{List}
use Prim.Native.Nat.{ℕ, ◌<◌}
use lib.Dec.{T}
use Rattle.mesh.specs.Tools.{sum, count}
use Rattle.mesh.specs.Mesh.{nodes, number, place_of, Inside}
use Rattle.mesh.specs.Cells.{Map, map_of, wall}
use Rattle.rules.specs.Marks.{is_word}
use Rattle.mesh.specs.declared.Sizes.{Sizes}
use Rattle.mesh.specs.declared.Place.{Place}
use Rattle.mesh.proofs.Tests.{T-eq, tried, bool_ext}
use Rattle.mesh.proofs.Numbers.{number_lt, place_in}
use Rattle.mesh.proofs.Steps.{next_in}
use Rattle.rules.proofs.Bytes.{word_not_one}
use Rattle.rules.proofs.ByteRule.{ruled_word}
use Rattle.talk.specs.State.{own, heard, map_in, faulty_node, works_node, StateOf, pair}
use Rattle.talk.specs.Sound.{faulty_hears, SoundOn, Sound}
use Rattle.talk.specs.Hear.{differs, outstanding_on, outstanding}
use Rattle.talk.proofs.State.{faulty_same, faulty_place, pair_talks, talks_pair, speaker_in}

-- the same sizes, and the same faulty nodes
abbrev pub Alike : Sizes → List ℕ → List ℕ → Type 0
Alike S c d = (k : ℕ) → k < nodes S → faulty_node (map_of S c) k ≡ faulty_node (map_of S d) k

module _ (S : Sizes) (c d : List ℕ) (e : Alike S c d) where
  wall_same : (p : Place) (j : ℕ) (q : Place) → Inside S q → wall (map_of S c) p j q ≡ wall (map_of S d) p j q
  unfolding wall
  wall_same p j q i = sym (faulty_place (map_of S c) q i) ∙ e (number S q) (number_lt S q i) ∙ faulty_place (map_of S d) q i

  pair_to : (k j : ℕ) → T (pair (map_of S c) k j) → T (pair (map_of S d) k j)
  pair_to k j t =
      let r = pair_talks (map_of S c) k j t in
      talks_pair (map_of S d) k j (record {
        lt = r.lt;
        works_k = rw (e k r.lt) at r.works_k;
        speaker = r.speaker;
        there = r.there;
        free = rw (wall_same (place_of S k) j r.speaker (speaker_in (map_of S c) k j r)) at r.free;
      })

module _ (S : Sizes) (c d : List ℕ) (e : Alike S c d) where
  abbrev back : Alike S d c
  back k l = sym (e k l)

  pub pair_same : (k j : ℕ) → pair (map_of S c) k j ≡ pair (map_of S d) k j
  pair_same k j = bool_ext (pair (map_of S c) k j) (pair (map_of S d) k j) (pair_to S c d e k j) (pair_to S d c back k j)

  outstanding_same : (s : List ℕ) → outstanding_on (map_of S c) s ≡ outstanding_on (map_of S d) s
  unfolding outstanding_on
  outstanding_same s = ap (λ (t : ℕ → ℕ → Bool). sum (nodes S) λ k. count 6 λ j. t k j && differs S s k j) (fun_ext λ k. fun_ext (pair_same k))

  sound_same : (o : ℕ) (s : List ℕ) → SoundOn (map_of S c) o s → SoundOn (map_of S d) o s
  unfolding faulty_hears
  sound_same o s z = record {
    long = z.long;
    failed = λ k l f. z.failed k l (rw (e k l) f);
    ruled = λ k l w. z.ruled k l (rw (e k l) w);
    edge = λ k j l w. z.edge k j l (rw (e k l) w);
    walled = λ k j q l w n b.
        let i = next_in S (place_of S k) q (place_in S k l) j n in
        z.walled k j q l (rw (e k l) w) n (rw (wall_same S c d e (place_of S k) j q i) b);
    words = λ k j t. z.words k j (pair_to S d c back k j t);
  }

-- a state that is sound on a map is a sound state of it, and back
module _ (m : Map) (o : ℕ) (s : List ℕ) where
  pub works_word : SoundOn m o s → (k : ℕ) → k < nodes m.sizes → T (works_node m k) → T (is_word (own s k))
  works_word z k l w = rw (z.ruled k l w) (ruled_word m.sizes o (heard s k))

  -- "A faulty node has own byte 1 and six zeros."
  pub six_zeros : SoundOn m o s → (k : ℕ) → k < nodes m.sizes → T (faulty_node m k) → (own s k ≡ 1) × ((j : ℕ) → j < 6 → heard s k j ≡ 0)
  unfolding faulty_hears
  six_zeros z = z.failed

  pub on_state : SoundOn m o s → StateOf m s
  on_state z k l = (
    λ e. elim (tried (faulty_node m k)) [ inl f ↦ f | inr w ↦ absurd (not_one (own s k) (works_word z k l w) e) ],
    λ f. (z.failed k l f).0,
  )
    where
      not_one : (w : ℕ) → T (is_word w) → w ≡ 1 → ⊥
      not_one w t e = subst (λ (b : Bool). T b) (word_not_one w t) ((T-eq w 1).1 e)

  pub on_sound : SoundOn m o s → Sound m.sizes o s
  on_sound z = sound_same m.sizes m.cells (map_in m.sizes s).cells (λ k l. sym (faulty_same m s (on_state z) k l)) o s z

  pub sound_on : Sound m.sizes o s → StateOf m s → SoundOn m o s
  sound_on z h = sound_same m.sizes (map_in m.sizes s).cells m.cells (faulty_same m s h) o s z

  -- the questions that a call asks of the state are then questions of the map
  pub pair_in : SoundOn m o s → (k j : ℕ) → pair (map_in m.sizes s) k j ≡ pair m k j
  pair_in z = pair_same m.sizes (map_in m.sizes s).cells m.cells (faulty_same m s (on_state z))

  pub outstanding_in : SoundOn m o s → outstanding m.sizes s ≡ outstanding_on m s
  unfolding outstanding
  outstanding_in z = outstanding_same m.sizes (map_in m.sizes s).cells m.cells (faulty_same m s (on_state z)) s
