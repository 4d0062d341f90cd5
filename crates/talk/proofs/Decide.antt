-- The test of soundness decides it. Assumes nothing.
use mathlib.Core.Path.{◌≡◌, refl}
use mathlib.Core.Logic.{◌↔◌}
use mathlib.Core.Bool.{not}
use mathlib.Core.List.{List}
use Prim.Native.Nat.{ℕ, ◌<◌}
use lib.Dec.{T}
use lib.ListN.{length}
use Rattle.mesh.specs.Mesh.{nodes, number, place_of}
use Rattle.mesh.specs.Steps.{next}
use Rattle.mesh.specs.Cells.{Map, wall, state_length}
use Rattle.rules.specs.Marks.{useless, cant_reach, has, rule_byte, is_word}
use Rattle.mesh.specs.declared.Sizes.{Sizes}
use Rattle.mesh.specs.declared.Place.{Place}
use Rattle.mesh.proofs.Steps.{dir_led}
use Rattle.mesh.proofs.Tests.{T-and, T-implies, T-cond, T-all, T-eq}
use Rattle.talk.specs.State.{own, heard, map_in, faulty_node, works_node}
use Rattle.talk.specs.Sound.{within, ◌no_more_than◌, faulty_hears, heard_right, working_right, faulty_right, node_right, sound_on, sound, SoundOn, Sound}
use Rattle.talk.proofs.State.{Talks, pair_talks, talks_pair, speaker_is}
use Rattle.std.specs.Prelude.{Some, None, Option}

pub within_iff : (v w : ℕ) → T (within v w) ↔ (v no_more_than w)
unfolding within
within_iff v w = (
  λ t.
      let q : (T (has v useless) → T (has w useless)) × (T (has v cant_reach) → T (has w cant_reach)) = simp (within, T-and, T-implies) at t in
      elim [ useless ↦ q.0 | cant_reach ↦ q.1 ],
  λ f. simp (within, T-and, T-implies) (f useless, f cant_reach),
)

module _ (m : Map) (o : ℕ) (s : List ℕ) where
  abbrev to : ℕ → ℕ → Option Place
  to k j = next m.sizes (place_of m.sizes k) j

  -- one byte heard
  at_iff : (k j : ℕ) (q : Place) → T (heard_right m s k j (Some q))
      ↔ ((T (wall m (place_of m.sizes k) j q) → heard s k j ≡ 1)
      × (T (not (wall m (place_of m.sizes k) j q)) → T (is_word (heard s k j)) × (heard s k j no_more_than own s (number m.sizes q))))
  at_iff k j q = simp (T-cond, T-and, T-eq, within_iff) (λ x. x, λ x. x)

  working_iff : (k : ℕ) → T (working_right m o s k)
      ↔ ((own s k ≡ rule_byte m.sizes o (heard s k)) × ((j : ℕ) → j < 6 → T (heard_right m s k j (to k j))))
  unfolding working_right
  working_iff k = simp (working_right, T-and, T-eq, T-all) (λ x. x, λ x. x)

  faulty_iff : (k : ℕ) → T (faulty_right m s k) ↔ ((own s k ≡ 1) × ((j : ℕ) → j < 6 → heard s k j ≡ faulty_hears m (place_of m.sizes k) j))
  unfolding faulty_right
  faulty_iff k = simp (faulty_right, T-and, T-eq, T-all) (λ x. x, λ x. x)

  node_iff : (k : ℕ) → T (node_right m o s k) ↔ ((T (faulty_node m k) → T (faulty_right m s k)) × (T (works_node m k) → T (working_right m o s k)))
  unfolding node_right
  node_iff k = simp (node_right, T-cond) (λ x. x, λ x. x)

  all_iff : T (sound_on m o s) ↔ ((length s ≡ state_length m.sizes) × ((k : ℕ) → k < nodes m.sizes → T (node_right m o s k)))
  unfolding sound_on
  all_iff = simp (sound_on, T-and, T-eq, T-all) (λ x. x, λ x. x)

  heard_of : SoundOn m o s → (k j : ℕ) → k < nodes m.sizes → T (works_node m k) → j < 6 → T (heard_right m s k j (to k j))
  heard_of z k j l w h = go (to k j) refl
    where
      go : (n : Option Place) → to k j ≡ n → T (heard_right m s k j n)
      go None e = (T-eq (heard s k j) 8).1 (z.edge k j l w h e)
      go (Some q) e = (at_iff k j q).1 (
        z.walled k j q l w e,
        λ f.
            let t : Talks m k j = record { lt = l; works_k = w; speaker = q; there = e; free = f } in
            rw (speaker_is m k j t) at (z.words k j (talks_pair m k j t)),
      )

  module _ (long : length s ≡ state_length m.sizes) (right : (k : ℕ) → k < nodes m.sizes → T (node_right m o s k)) where
    working : (k : ℕ) → k < nodes m.sizes → T (works_node m k)
        → (own s k ≡ rule_byte m.sizes o (heard s k)) × ((j : ℕ) → j < 6 → T (heard_right m s k j (to k j)))
    working k l w = (working_iff k).0 (((node_iff k).0 (right k l)).1 w)

    leads : (k j : ℕ) (q : Place) → k < nodes m.sizes → T (works_node m k) → to k j ≡ Some q → T (heard_right m s k j (Some q))
    leads k j q l w e = rw e at ((working k l w).1 j (dir_led m.sizes (place_of m.sizes k) q j e))

    sound_of : SoundOn m o s
    sound_of = record {
      long = long;
      failed = λ k l f. (faulty_iff k).0 (((node_iff k).0 (right k l)).0 f);
      ruled = λ k l w. (working k l w).0;
      edge = λ k j l w h e. (T-eq (heard s k j) 8).0 (rw e at ((working k l w).1 j h));
      walled = λ k j q l w e. ((at_iff k j q).0 (leads k j q l w e)).0;
      words = λ k j t.
          let r = pair_talks m k j t in
          rw (speaker_is m k j r) (((at_iff k j r.speaker).0 (leads k j r.speaker r.lt r.works_k r.there)).1 r.free);
    }

  sound_on_iff : T (sound_on m o s) ↔ SoundOn m o s
  sound_on_iff = (
    λ t. let (l, f) = all_iff.0 t in sound_of l f,
    λ z. all_iff.1 (
      z.long,
      λ k l. (node_iff k).1 (λ f. (faulty_iff k).1 (z.failed k l f), λ w. (working_iff k).1 (z.ruled k l w, λ j h. heard_of z k j l w h)),
    ),
  )

pub sound_iff : (S : Sizes) (o : ℕ) (s : List ℕ) → T (sound S o s) ↔ Sound S o s
unfolding sound
sound_iff S o s = sound_on_iff (map_in S s) o s
