-- A node's test and its count, as the code puts them together. Assumes nothing.
use mathlib.Core.Path.{◌≡◌, sym, ap, ap₂, ◌∙◌}
use mathlib.Core.Bool.{Bool, true, false, cond, not, ◌&&◌}
use mathlib.Core.List.{List}
use Prim.Native.Nat.{ℕ, zero, suc, ◌+◌, ◌*◌, ◌<◌, ◌≤◌}
use native.Mathlib.Omega.{arith}
use lib.Bits.{bit_and, bit_or, bit_xor, and_le_r, or_lt, xor_lt}
use lib.Dec.{eqb}
use borrow.Author.Tests.{eq-eqb, ne_eqb}
use Rattle.std.specs.Bool.{then_some}
use Rattle.std.specs.Option.{MatchOption}
use Rattle.mesh.specs.Tools.{bit, all, sum, count}
use Rattle.mesh.specs.Mesh.{InRange, place_of}
use Rattle.mesh.specs.Cells.{Map}
use Rattle.mesh.specs.declared.Sizes.{Sizes}
use Rattle.mesh.specs.declared.Place.{Place}
use Rattle.mesh.proofs.Bits.{bit_le}
use Rattle.mesh.proofs.Tests.{all_same}
use Rattle.mesh.proofs.Tables.{sum_same, sum_mono}
use Rattle.talk.specs.State.{own, heard, map_in}
use Rattle.talk.specs.Sound.{faulty_hears}
use Rattle.states.specs.Six.{Bytes, six, ones, fits, quick_rule, shows, ◌is_but255◌}
use Rattle.states.specs.declared.six.Six.{Six}
use Rattle.scans.specs.Scan.{node_test, node_news, row_news, Right}
use Rattle.states.proofs.Quick.{xor_none}
use Rattle.states.proofs.Heard.{faulty_byte}
use Rattle.states.proofs.Packed.{packed_eq, packed_and, packed_or, packed_xor, packed_sum, six_ones}

-- what a node that is tested gives
pub found : (S : Sizes) (o : ℕ) (s : List ℕ) (k : ℕ) (t : Bool) (n : Six) → t ≡ node_test S o s k → n.bytes is_but255 node_news S s k → n.bytes ≤ ones
    → MatchOption (then_some t n) (node_test S o s k ≡ false) λ v. Right S o s k v.bytes
found S o s k true n e c l = record { passes = sym e; counts = c; few = l }
found S o s k false n e c l = sym e

module _ (S : Sizes) (o : ℕ) (s : List ℕ) (k : ℕ) (told : ℕ) (et : told ≡ six (heard s k)) (bt : Bytes (heard s k)) where
  pub faulty_test : (v n : ℕ) (t : Bool) → ((m : Map) (p : Place) (j : ℕ) → v ≡ faulty_hears m p j) → n ≡ v * ones → t ≡ eqb told n → own s k ≡ 1
      → t ≡ node_test S o s k
  unfolding node_test
  faulty_test v n t f en e h =
      let low : v < 256 = rw (f (map_in S s) (place_of S k) 0) (faulty_byte (map_in S s) (place_of S k) 0) in
      e
      ∙ (rw (et, en, sym (six_ones v), packed_eq 6 (heard s k) (λ j. v) bt (λ j. low), eq-eqb (own s k) 1 h)
      (all_same 6 (λ j. eqb (heard s k j) v) (λ j. eqb (heard s k j) (faulty_hears (map_in S s) (place_of S k) j))
      λ j _. ap (eqb (heard s k j)) (f (map_in S s) (place_of S k) j)))

  module _ (said : ℕ) (es : said ≡ six (shows S s k)) (bs : Bytes (shows S s k)) where
    sixes : Bytes λ j. bit_and (shows S s k j) 6
    sixes j = omega (arith, and_le_r (shows S s k j) 6)

    sides : eqb (bit_or told (bit_and said (6 * ones))) said ≡ all 6 λ j. fits (shows S s k j) (heard s k j)
    unfolding fits
    sides =
        rw (
          et,
          es,
          sym (six_ones 6),
          packed_and 6 (shows S s k) (λ j. 6) bs (λ j. omega arith),
          packed_or 6 (heard s k) (λ j. bit_and (shows S s k j) 6) bt sixes,
        ) (packed_eq 6 (λ j. bit_or (heard s k j) (bit_and (shows S s k j) 6)) (shows S s k)
        (λ j. or_lt 8 (heard s k j) (bit_and (shows S s k j) 6) (bt j) (sixes j)) bs)

    pub working_test : (b n : ℕ) (t : Bool) → b ≡ quick_rule S o (heard s k) → n ≡ bit_or told (bit_and said (6 * ones)) → t ≡ eqb n said
        → (own s k ≡ 1 → ⊥) → eqb (own s k) b && t ≡ node_test S o s k
    unfolding node_test
    working_test b n t e en f h =
        ap₂ ◌&&◌ (ap (eqb (own s k)) e) (f ∙ ap (λ (x : ℕ). eqb x said) en ∙ sides) ∙ (rw (ne_eqb (own s k) 1 h))

    -- a byte differs where something is left of the difference
    pub differs_six : bit_xor said told ≡ six λ j. bit_xor (shows S s k j) (heard s k j)
    differs_six = rw (et, es) (packed_xor 6 (shows S s k) (heard s k) bs bt)

    pub differs_byte : Bytes λ j. bit_xor (shows S s k j) (heard s k j)
    differs_byte j = xor_lt 8 (shows S s k j) (heard s k j) (bs j) (bt j)

    pub working_news : (n : ℕ) → n ≡ six (λ j. bit (not (eqb (bit_xor (shows S s k j) (heard s k j)) 0))) → (own s k ≡ 1 → ⊥)
        → n is_but255 node_news S s k
    unfolding node_news
    working_news n e h =
        let (m, q) = packed_sum 6 λ j. bit (not (eqb (bit_xor (shows S s k j) (heard s k j)) 0)) in
        let same : sum 6 (λ j. bit (not (eqb (bit_xor (shows S s k j) (heard s k j)) 0))) ≡ count 6 λ j. not (eqb (shows S s k j) (heard s k j)) =
        sum_same 6 (λ j. bit (not (eqb (bit_xor (shows S s k j) (heard s k j)) 0))) (λ j. bit (not (eqb (shows S s k j) (heard s k j))))
        (λ j _. ap (λ t. bit (not t)) (xor_none (shows S s k j) (heard s k j))) in
        (m, rw (ne_eqb (own s k) 1 h) (omega (arith, e, q, same)))

-- a faulty one has none
pub faulty_news : (S : Sizes) (s : List ℕ) (k : ℕ) → own s k ≡ 1 → 0 is_but255 node_news S s k
unfolding node_news
faulty_news S s k h = (0, rw (eq-eqb (own s k) 1 h) (omega arith))

-- a node has six neighbours at the most
pub news_le : (S : Sizes) (s : List ℕ) (k : ℕ) → node_news S s k ≤ 6
unfolding node_news sum
news_le S s k = go (eqb (own s k) 1)
  where
    go : (t : Bool) → cond t 0 (count 6 λ j. not (eqb (shows S s k j) (heard s k j))) ≤ 6
    go true = omega arith
    go false = sum_mono 6 (λ j. bit (not (eqb (shows S s k j) (heard s k j)))) (λ j. 1) (λ j _. bit_le (not (eqb (shows S s k j) (heard s k j))))

pub sum_six : (n : ℕ) (f : ℕ → ℕ) → ((k : ℕ) → f k ≤ 6) → sum n f ≤ 6 * n
unfolding sum
sum_six zero f h = omega arith
sum_six (suc n) f h = omega (arith, h n, sum_six n f h)

-- a row has sixteen at the most
pub row_few : (S : Sizes) → InRange S → (s : List ℕ) (r : ℕ) → row_news S s r ≤ 96
row_few S i s r = omega (arith, i.w_hi, sum_six S.w (λ x. node_news S s (x + S.w * r)) λ x. news_le S s (x + S.w * r))
