-- A state is sound exactly where every node passes its test. The tests take for granted that own bytes are 1 or words; a node whose own byte
-- is neither passes no test. Assumes nothing.
use mathlib.Core.Path.{◌≡◌, refl, sym, ap, ◌∙◌}
use mathlib.Core.Logic.{inl, inr}
use mathlib.Core.Bool.{Bool, true, false, cond, ◌&&◌}
use mathlib.Core.List.{List}
use Prim.Native.Nat.{ℕ, ◌*◌, ◌<◌}
use lib.Dec.{T, eqb}
use borrow.Author.Tests.{eq-eqb}
use lib.ListN.{length}
use Rattle.mesh.specs.Tools.{all}
use Rattle.mesh.specs.Mesh.{nodes, number, place_of, Inside}
use Rattle.mesh.specs.Steps.{next, reversed}
use Rattle.mesh.specs.Cells.{Map, state_length}
use Rattle.rules.specs.Marks.{byte_of, is_word, rule, rule_byte}
use Rattle.mesh.specs.declared.Sizes.{Sizes}
use Rattle.mesh.specs.declared.Place.{Place}
use Rattle.mesh.proofs.Tests.{T-and, T-or, T-eq, T-all, T-cond, all_same, tried, bool_ext}
use Rattle.mesh.proofs.Numbers.{number_lt, place_in}
use Rattle.mesh.proofs.Steps.{next_in}
use Rattle.mesh.proofs.Strides.{all_rows}
use Rattle.rules.proofs.Bytes.{both, byte_word, word_not_one}
use Rattle.rules.proofs.ByteRule.{ruled_word}
use Rattle.talk.specs.State.{own, heard, map_in}
use Rattle.talk.specs.Sound.{within, faulty_hears, heard_right, working_right, faulty_right, node_right, sound_on, sound}
use Rattle.states.specs.Six.{is_own, is_heard, fits, hinders, quick_rule, around_at, around, shows}
use Rattle.scans.specs.Scan.{node_test, row_test}
use Rattle.talk.proofs.State.{faulty_in, wall_in}
use Rattle.states.proofs.Fitting.{fits_bare, fits_word}
use Rattle.states.proofs.Heard.{heard_cases, word_heard, quick_is}
use Rattle.std.specs.Prelude.{Some, None, Option}

-- ---- bytes

-- the quick rule gives a word on any bytes
quick_word : (S : Sizes) (o : ℕ) (h : ℕ → ℕ) → T (is_word (quick_rule S o h))
unfolding quick_rule byte_of
quick_word S o h = byte_word (both (rule S o λ j. hinders 2 (h j)) (rule S (reversed o) λ j. hinders 4 (h j)))

-- ---- what a neighbour shows, and what is then right

-- for a neighbour that is there
fits_own : (n b : ℕ) → T (is_own n) → fits n b ≡ cond (eqb n 1) (eqb b 1) (is_word b && within b n)
unfolding is_own
fits_own n b t = elim ((T-or (eqb n 1) (is_word n)).0 t) [
  | inl e ↦ rw ((T-eq n 1).0 e) (fits_bare 1 b refl)
  | inr w ↦ fits_word n b w ∙ sym (ap (λ (x : Bool). cond x (eqb b 1) (is_word b && within b n)) (word_not_one n w))
]

fits_heard : (n b : ℕ) → T (is_heard n) → T (fits n b) → T (is_heard b)
unfolding is_heard is_own
fits_heard n b = heard_cases (λ n. T (fits n b) → T (is_heard b))
    (λ t. rw ((T-eq b 8).0 (rw (fits_bare 8 b refl) at t)) tt)
    (λ t. rw ((T-eq b 1).0 (rw (fits_bare 1 b refl) at t)) tt)
    (λ n w t. word_heard b ((T-and (is_word b) (within b n)).0 (rw (fits_word n b w) at t)).0) n

-- an own byte that is tested so is 1 or a word
own_of : (b n : ℕ) (f w : Bool) → T (is_word n) → T (cond (eqb b 1) f (eqb b n && w)) → T (is_own b)
unfolding is_own
own_of b n f w v t = (T-or (eqb b 1) (is_word b)).1 (elim (tried (eqb b 1)) [
  | inl e ↦ inl e
  | inr e ↦ inr (rw ((T-eq b n).0 ((T-and (eqb b n) w).0 (((T-cond (eqb b 1) f (eqb b n && w)).0 t).1 e)).0) v)
])

and_when : (a b c d : Bool) → b ≡ d → (T d → a ≡ c) → a && b ≡ c && d
and_when a b c true e f = rw (e, f tt)
and_when a b c false e f = rw e (no a ∙ sym (no c))
  where
    no : (x : Bool) → x && false ≡ false
    no true = refl
    no false = refl

arms : (t a b c : Bool) → b ≡ c → cond t a b ≡ cond t (t && a) c
arms true a b c e = refl
arms false a b c e = e

-- ---- nodes

module _ (S : Sizes) (o : ℕ) (s : List ℕ) where
  abbrev m : Map
  m = map_in S s

  abbrev to : ℕ → ℕ → Option Place
  to k j = next S (place_of S k) j

  -- `node_right`, with the question of the map answered from the state
  right_is : (k : ℕ) → k < nodes S → node_right m o s k ≡ cond (eqb (own s k) 1) (faulty_right m s k) (working_right m o s k)
  unfolding node_right
  right_is k l = rw (faulty_in S s k l)

  test_own : (k : ℕ) → T (node_test S o s k) → T (is_own (own s k))
  unfolding node_test
  test_own k = own_of (own s k) (quick_rule S o (heard s k)) _ _ (quick_word S o (heard s k))

  right_own : (k : ℕ) → k < nodes S → T (node_right m o s k) → T (is_own (own s k))
  unfolding working_right
  right_own k l t = own_of (own s k) (rule_byte S o (heard s k)) _ _ (ruled_word S o (heard s k)) (rw (right_is k l) at t)

  module _ (owns : (k : ℕ) → k < nodes S → T (is_own (own s k))) (k : ℕ) (l : k < nodes S) where
    inside : (j : ℕ) (q : Place) → to k j ≡ Some q → Inside S q
    inside j q e = next_in S (place_of S k) q (place_in S k l) j e

    side_same : (j : ℕ) → fits (shows S s k j) (heard s k j) ≡ heard_right m s k j (to k j)
    unfolding around
    side_same j = go (to k j) refl
      where
        go : (n : Option Place) → to k j ≡ n → fits (around_at S (own s) n) (heard s k j) ≡ heard_right m s k j n
        go None e = fits_bare 8 (heard s k j) refl
        go (Some q) e =
            let i = inside j q e in
            rw (wall_in S s (place_of S k) j q i) (fits_own (own s (number S q)) (heard s k j) (owns (number S q) (number_lt S q i)))

    shows_heard : (j : ℕ) → T (is_heard (shows S s k j))
    unfolding around is_heard
    shows_heard j = go (to k j) refl
      where
        go : (n : Option Place) → to k j ≡ n → T (is_heard (around_at S (own s) n))
        go None e = tt
        go (Some q) e = (T-or (eqb (own s (number S q)) 8) (is_own (own s (number S q)))).1
            (inr (owns (number S q) (number_lt S q (inside j q e))))

    told_same : all 6 (λ j. fits (shows S s k j) (heard s k j)) ≡ all 6 (λ j. heard_right m s k j (to k j))
    told_same = all_same 6 (λ j. fits (shows S s k j) (heard s k j)) (λ j. heard_right m s k j (to k j)) λ j h. side_same j

    -- where all is heard right, the quick rule is the rule
    rule_same_here : T (all 6 λ j. heard_right m s k j (to k j)) → eqb (own s k) (quick_rule S o (heard s k)) ≡ eqb (own s k) (rule_byte S o (heard s k))
    rule_same_here t = ap (eqb (own s k)) (quick_is S o (heard s k) λ j h.
        fits_heard (shows S s k j) (heard s k j) (shows_heard j) (rw (side_same j) ((T-all 6 (λ j. heard_right m s k j (to k j))).0 t j h)))

    node_same : node_test S o s k ≡ node_right m o s k
    unfolding node_test faulty_right working_right
    node_same =
        arms (eqb (own s k) 1) (all 6 λ j. eqb (heard s k j) (faulty_hears m (place_of S k) j)) _ _
        (and_when (eqb (own s k) (quick_rule S o (heard s k))) _ (eqb (own s k) (rule_byte S o (heard s k))) _ told_same rule_same_here)
        ∙ sym (right_is k l)

  all_nodes : all (nodes S) (node_test S o s) ≡ all (nodes S) (node_right m o s)
  all_nodes = bool_ext (all (nodes S) (node_test S o s)) (all (nodes S) (node_right m o s))
      (λ t.
      let f = (T-all (nodes S) (node_test S o s)).0 t in
      (T-all (nodes S) (node_right m o s)).1 λ k l. rw (← node_same (λ k l. test_own k (f k l)) k l) (f k l))
      (λ t.
      let f = (T-all (nodes S) (node_right m o s)).0 t in
      (T-all (nodes S) (node_test S o s)).1 λ k l. rw (node_same (λ k l. right_own k l (f k l)) k l) (f k l))

  -- what the scan finds, row by row
  pub scan_is : length s ≡ state_length S → all (S.h * S.d) (row_test S o s) ≡ sound S o s
  unfolding sound sound_on
  scan_is e = sym (all_rows S.w (S.h * S.d) (node_test S o s)) ∙ all_nodes ∙ (rw (eq-eqb (length s) (state_length S) e))
