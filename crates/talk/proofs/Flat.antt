-- In a flat mesh "orientations 4 to 7 give what 0 to 3 give", for states too. Assumes nothing.
use mathlib.Core.Path.{◌≡◌, refl, ap, fun_ext}
use mathlib.Core.Bool.{Bool, ◌&&◌}
use mathlib.Core.List.{List}
use Prim.Native.Nat.{ℕ, zero, suc, ◌/◌, ◌%◌, ◌≤◌}
use native.Mathlib.Omega.{arith}
use lib.Dec.{eqb, leb}
use lib.ListN.{length}
use Rattle.mesh.specs.Tools.{all, table}
use Rattle.mesh.specs.Mesh.{nodes}
use Rattle.mesh.specs.Cells.{Map, map_of, state_length}
use Rattle.rules.specs.Marks.{rule_byte}
use Rattle.mesh.specs.declared.Sizes.{Sizes}
use Rattle.mesh.proofs.Tests.{T-le, bool_ext}
use Rattle.rules.proofs.ByteRule.{flat_byte}
use Rattle.talk.specs.State.{map_in}
use Rattle.talk.specs.Sound.{working_right, node_right, sound_on, sound, fresh_own, fresh_byte, fresh}
use Rattle.talk.specs.Hear.{ruled_at, changed}
use Rattle.talk.specs.Entries.{fresh_answer, fresh_out, sound_answer, outstanding_answer, hear_answer, hear_out}

module _ (S : Sizes) (flat : S.d ≡ 1) (o : ℕ) (o_le : o ≤ 7) where
  abbrev r : ℕ
  r = o % 4

  rules : rule_byte S o ≡ rule_byte S r
  rules = fun_ext (flat_byte S flat o o_le)

  in_range : leb o 7 ≡ leb r 7
  in_range = bool_ext (leb o 7) (leb r 7) (λ _. (T-le r 7).1 (omega arith)) (λ _. (T-le o 7).1 o_le)

  module _ (m : Map) (e : m.sizes ≡ S) where
    byte_same : (k i : ℕ) → fresh_byte m o k i ≡ fresh_byte m r k i
    unfolding fresh_own
    byte_same k zero = rw (e, rules)
    byte_same k (suc j) = refl

    node_same : (s : List ℕ) (k : ℕ) → node_right m o s k ≡ node_right m r s k
    unfolding node_right working_right
    node_same s k = rw (e, rules)

  pub flat_fresh : (cells : List ℕ) → fresh (map_of S cells) o ≡ fresh (map_of S cells) r
  unfolding fresh
  flat_fresh cells = ap (λ (f : ℕ → ℕ). table f (state_length S)) (fun_ext λ i. byte_same (map_of S cells) refl (i / 7) (i % 7))

  pub flat_sound : (s : List ℕ) → sound S o s ≡ sound S r s
  unfolding sound sound_on
  flat_sound s = ap (λ (f : ℕ → Bool). eqb (length s) (state_length S) && all (nodes S) f) (fun_ext (node_same (map_in S s) refl s))

  flat_changed : (k j w : ℕ) (s : List ℕ) → changed S o k j w s ≡ changed S r k j w s
  unfolding changed ruled_at
  flat_changed k j w s = rw rules

  -- so every call answers and leaves the same
  pub flat_fresh_answer : (cells : List ℕ) (room : ℕ) → fresh_answer S cells o room ≡ fresh_answer S cells r room
  unfolding fresh_answer
  flat_fresh_answer cells room = rw in_range

  pub flat_sound_answer : (s : List ℕ) → sound_answer S o s ≡ sound_answer S r s
  unfolding sound_answer
  flat_sound_answer s = rw (in_range, flat_sound s)

  pub flat_outstanding : (s : List ℕ) → outstanding_answer S o s ≡ outstanding_answer S r s
  unfolding outstanding_answer
  flat_outstanding s = rw (flat_sound_answer s)

  pub flat_hear_answer : (k j w : ℕ) (s : List ℕ) → hear_answer S o k j w s ≡ hear_answer S r k j w s
  unfolding hear_answer
  flat_hear_answer k j w s = rw (in_range, flat_sound s)

  pub flat_fresh_out : (cells old : List ℕ) → fresh_out S cells o old ≡ fresh_out S cells r old
  flat_fresh_out cells old = rw (flat_fresh_answer cells (length old), flat_fresh cells)

  pub flat_hear_out : (k j w : ℕ) (s : List ℕ) → hear_out S o k j w s ≡ hear_out S r k j w s
  flat_hear_out k j w s = rw (flat_hear_answer k j w s, flat_changed k j w s)
