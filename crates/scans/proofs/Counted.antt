-- The words outstanding, as the code counts them: in a sound state a working node has news wherever it is shown another byte than it has heard.
-- Assumes nothing.
use mathlib.Core.Path.{◌≡◌, refl, sym, ap, ◌∙◌}
use mathlib.Core.Logic.{inl, inr}
use mathlib.Core.Bool.{Bool, true, false, not, ◌&&◌}
use mathlib.Core.List.{List}
use Prim.Native.Nat.{ℕ, ◌<◌}
use lib.Dec.{T, eqb}
use borrow.Author.Tests.{eq-eqb}
use Rattle.mesh.specs.Tools.{bit, sum, count}
use Rattle.mesh.specs.Mesh.{nodes}
use Rattle.mesh.specs.Cells.{Map}
use Rattle.mesh.specs.declared.Sizes.{Sizes}
use Rattle.mesh.proofs.Tests.{T-no, tried, holds_true, cond_true, cond_false}
use Rattle.mesh.proofs.Tables.{sum_same, sum_zero}
use Rattle.talk.specs.State.{own, heard, map_in, faulty_node, works_node, pair, says}
use Rattle.talk.specs.Sound.{Sound}
use Rattle.talk.specs.Hear.{news, outstanding_on, outstanding}
use Rattle.states.specs.Six.{around_at, around, shows}
use Rattle.scans.specs.Scan.{node_news}
use Rattle.talk.proofs.State.{faulty_in, pair_talks, speaker_is}
use Rattle.talk.proofs.Exact.{reads}
use Rattle.states.proofs.Around.{shows_read}

no_pair : (a b : Bool) → (T a → ⊥) → 0 ≡ bit (a && b)
no_pair true b f = absurd (f tt)
no_pair false b f = refl

module _ (S : Sizes) (o : ℕ) (s : List ℕ) (z : Sound S o s) where
  abbrev m : Map
  m = map_in S s

  -- a speaker shows its own byte
  shows_says : (k j : ℕ) → T (pair m k j) → shows S s k j ≡ says S s k j
  unfolding around
  shows_says k j t = let r = pair_talks m k j t in ap (around_at S (own s)) r.there ∙ ap (own s) (sym (speaker_is m k j r))

  direction_same : (k j : ℕ) → k < nodes S → T (works_node m k) → j < 6 → bit (not (eqb (shows S s k j) (heard s k j))) ≡ bit (news m s k j)
  direction_same k j l w h = elim (tried (pair m k j)) [
    | inl t ↦ rw (shows_says k j t, (holds_true (pair m k j)).0 t)
    | inr f ↦ elim (reads m o s z k j l w h) [
      | inl e ↦ rw (eq-eqb (shows S s k j) (heard s k j) (sym (e ∙ shows_read S s k j l))) (no_pair (pair m k j) _ ((T-no (pair m k j)).0 f))
      | inr r ↦ absurd ((T-no (pair m k j)).0 f r.0)
    ]
  ]

  node_same : (k : ℕ) → k < nodes S → node_news S s k ≡ count 6 (news m s k)
  unfolding node_news
  node_same k l = elim (tried (eqb (own s k) 1)) [
    | inl t ↦ cond_true (eqb (own s k) 1) 0 (count 6 λ j. not (eqb (shows S s k j) (heard s k j))) t
        ∙ sym (sum_zero 6 (λ j. bit (news m s k j)) λ j h. sym
        (no_pair (pair m k j) _ λ q. (T-no (faulty_node m k)).0 (pair_talks m k j q).works_k (rw (faulty_in S s k l) t)))
    | inr f ↦ cond_false (eqb (own s k) 1) 0 (count 6 λ j. not (eqb (shows S s k j) (heard s k j))) f ∙ sum_same 6 _ _ λ j h.
        direction_same k j l (rw (faulty_in S s k l) f) h
  ]

  pub news_is : sum (nodes S) (node_news S s) ≡ outstanding S s
  unfolding outstanding outstanding_on
  news_is = sum_same (nodes S) (node_news S s) (λ k. count 6 (news m s k)) node_same
