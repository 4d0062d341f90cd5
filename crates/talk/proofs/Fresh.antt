-- The fresh state of a map is a sound state of it, in which nodes know only failed neighbours. Assumes nothing.
use mathlib.Core.Path.{◌≡◌, sym, ap, ap₂, ◌∙◌, fun_ext}
use mathlib.Core.Bool.{Bool, false, ◌&&◌}
use mathlib.Core.List.{List}
use Prim.Native.Nat.{ℕ, suc, ◌+◌, ◌*◌, ◌/◌, ◌%◌, ◌<◌}
use native.Mathlib.Omega.{arith}
use lib.Dec.{T}
use Rattle.mesh.specs.Mesh.{nodes, place_of}
use Rattle.mesh.specs.Steps.{next}
use Rattle.mesh.specs.Cells.{Map, works, wall, state_length}
use Rattle.rules.specs.Marks.{useless, cant_reach, heading, has, byte_of, is_word, rule, blocks, marked, stuck_within, rule_byte, read_by, read_at}
use Rattle.mesh.specs.declared.Place.{Place}
use Rattle.mesh.proofs.Tests.{cond_true, cond_false, holds_true}
use Rattle.mesh.proofs.Tables.{length_table, get_d_table}
use Rattle.mesh.proofs.Steps.{dir_led}
use Rattle.rules.proofs.ByteRule.{byte_rule}
use Rattle.talk.specs.State.{own, heard, faulty_node, works_node, pair, says}
use Rattle.talk.specs.Sound.{◌no_more_than◌, faulty_hears, SoundOn, fresh_heard, fresh_own, fresh_byte, fresh}
use Rattle.talk.specs.Promise.{FreshPromise}
use Rattle.talk.proofs.State.{pair_talks, dir_lt_six}
use Rattle.talk.proofs.Rule.{ruled_same}
use Rattle.talk.proofs.Same.{on_state, on_sound}
use Rattle.std.specs.Prelude.{Some, None, Option}

none_within : (b : ℕ) → 0 no_more_than b
unfolding has
none_within b useless t = absurd t
none_within b cant_reach t = absurd t

module _ (m : Map) (o : ℕ) where
  abbrev s : List ℕ
  s = fresh m o

  abbrev p : ℕ → Place
  p k = place_of m.sizes k

  abbrev byte_at : ℕ → ℕ
  byte_at i = fresh_byte m o (i / 7) (i % 7)

  fresh_own_lem : (k : ℕ) → k < nodes m.sizes → own s k ≡ fresh_own m o k
  unfolding fresh
  fresh_own_lem k h =
      let e : 7 * k / 7 ≡ k = omega arith in
      let f : 7 * k % 7 ≡ 0 = omega arith in
      get_d_table byte_at (state_length m.sizes) (7 * k) 0 (omega arith) ∙ ap₂ (fresh_byte m o) e f

  pub fresh_heard_lem : (k j : ℕ) → k < nodes m.sizes → j < 6 → heard s k j ≡ fresh_heard m k j
  unfolding fresh
  fresh_heard_lem k j h l =
      let e : (7 * k + 1 + j) / 7 ≡ k = omega arith in
      let f : (7 * k + 1 + j) % 7 ≡ suc j = omega arith in
      get_d_table byte_at (state_length m.sizes) (7 * k + 1 + j) 0 (omega arith) ∙ ap₂ (fresh_byte m o) e f

  module _ (k : ℕ) (l : k < nodes m.sizes) (w : T (works_node m k)) where
    -- a working node has heard its neighbours say 0, and goes by that
    reads : (j : ℕ) → j < 6 → heard s k j ≡ read_at m (λ q. 0) (p k) j
    unfolding fresh_heard
    reads j h = fresh_heard_lem k j l h ∙ cond_false (faulty_node m k) (faulty_hears m (p k) j) (read_at m (λ q. 0) (p k) j) w

    leads : (j : ℕ) (n : Option Place) → j < 6 → next m.sizes (p k) j ≡ n → heard s k j ≡ read_by m (λ q. 0) (p k) j n
    leads j n h e = reads j h ∙ ap (read_by m (λ q. 0) (p k) j) e

    rules : own s k ≡ rule_byte m.sizes o (fresh_heard m k)
    unfolding fresh_own
    rules = fresh_own_lem k l ∙ cond_false (faulty_node m k) 1 (rule_byte m.sizes o (fresh_heard m k)) w

    near : own s k ≡ byte_of λ a. stuck_within 1 m (heading o a) (p k)
    unfolding stuck_within marked has is_word
    near =
        rules
        ∙ ruled_same m.sizes o (fresh_heard m k) (read_at m (λ q. 0) (p k)) (λ j h. sym (fresh_heard_lem k j l h) ∙ reads j h)
        ∙ byte_rule m (λ q. 0) (p k) o (λ j q e n. tt)
        ∙ ap byte_of (fun_ext (elim [ useless ↦ step (heading o useless) | cant_reach ↦ step (heading o cant_reach) ]))
      where
        step : (h : ℕ) → rule m.sizes h (blocks m (λ q. false) (p k)) ≡ works m (p k) && rule m.sizes h (blocks m (λ q. false) (p k))
        step h = ap (λ (b : Bool). b && rule m.sizes h (blocks m (λ q. false) (p k))) (sym ((holds_true (works m (p k))).0 w))

  silent : (k j : ℕ) → T (pair m k j) → heard s k j ≡ 0
  silent k j t =
      let r = pair_talks m k j t in
      leads k r.lt r.works_k j (Some r.speaker) (dir_lt_six m k j r) r.there ∙ cond_false (wall m (p k) j r.speaker) 1 0 r.free

  pub fresh_sound : SoundOn m o s
  unfolding fresh fresh_own fresh_heard is_word
  fresh_sound = record {
    long = length_table byte_at (state_length m.sizes);
    failed = λ k l f. (
      fresh_own_lem k l ∙ cond_true (faulty_node m k) 1 (rule_byte m.sizes o (fresh_heard m k)) f,
      λ j h. fresh_heard_lem k j l h ∙ cond_true (faulty_node m k) (faulty_hears m (p k) j) (read_at m (λ q. 0) (p k) j) f,
    );
    ruled = λ k l w. rules k l w ∙ ruled_same m.sizes o (fresh_heard m k) (heard s k) (λ j h. sym (fresh_heard_lem k j l h));
    edge = λ k j l w h e. leads k l w j None h e;
    walled = λ k j q l w e b. leads k l w j (Some q) (dir_led m.sizes (p k) q j e) e ∙ cond_true (wall m (p k) j q) 1 0 b;
    words = λ k j t. rw (silent k j t) (tt, none_within (says m.sizes s k j));
  }

  pub fresh_promise : FreshPromise m o s
  fresh_promise = record { sound = on_sound m o s fresh_sound; state = on_state m o s fresh_sound; silent = silent; near = near }
