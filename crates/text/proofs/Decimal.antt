-- A number has at most twenty digits, and its digits stored from the last to the first are those of `decimal`. Assumes nothing.
use mathlib.Core.Path.{◌≡◌, refl, sym, ap, ◌∙◌, subst}
use mathlib.Core.Bool.{Bool, true, false, cond}
use mathlib.Core.List.{List, [], ◌∷◌, ◌++◌, append_assoc}
use Prim.Native.Nat.{ℕ, zero, suc, ◌+◌, ◌-◌, ◌/◌, ◌%◌, ◌^◌, ◌≤◌, ◌<◌}
use native.Mathlib.Nat.{pow-suc}
use native.Mathlib.Numerals.{add-one}
use native.Mathlib.Omega.{arith}
use borrow.Author.Tests.{lt-ltb, le-ltb}
use lib.Dec.{ltb}
use lib.ListN.{length, length-append, length-set, set, drop}
use Rattle.std.proofs.lemmas.List.{drop-set}
use Rattle.text.specs.Text.{ascii, decimal_within, decimal}

-- no number takes more than twenty digits
length_within : (more n : ℕ) → length (decimal_within more n) ≤ more
unfolding decimal_within
length_within zero n = omega arith
length_within (suc more) n = go (ltb n 10) (decimal_within more (n / 10)) (length_within more (n / 10))
  where
    go : (t : Bool) (l : List ℕ) → length l ≤ more → length (cond t ((48 + n) ∷ []) (l ++ (48 + n % 10) ∷ [])) ≤ suc more
    go true l h = omega arith
    go false l h = omega (arith, length-append l ((48 + n % 10) ∷ []))

pub length_decimal : (n : ℕ) → length (decimal n) ≤ 20
length_decimal n = length_within 20 n

-- a digit below ten is the first, and one that is not has others before it
first : (k n : ℕ) → n < 10 → decimal_within (suc k) n ≡ (48 + n) ∷ []
unfolding decimal_within
first k n h = rw (lt-ltb n 10 h) refl

later : (k n : ℕ) → 10 ≤ n → decimal_within (suc k) n ≡ decimal_within k (n / 10) ++ (48 + n % 10) ∷ []
unfolding decimal_within
later k n h = rw (le-ltb n 10 h) refl

-- the digits behind place i are stored, and `rest` is the number that those at i and before it say
pub record Storing (n i rest : ℕ) (digits : List ℕ) : Type 0 where
  pub place : i ≤ 19
  pub room : length digits ≡ 20
  pub small : rest < 10 ^ suc i
  pub whole : decimal n ≡ decimal_within (suc i) rest ++ drop (suc i) digits

-- one digit more, at place `suc i`
storing_next : {n i rest : ℕ} {digits : List ℕ} → Storing n (suc i) rest digits → 10 ≤ rest
    → Storing n i (rest / 10) (set digits (suc i) (48 + rest % 10))
storing_next {n} {i} {rest} {digits} s h =
    let d = 48 + rest % 10 in
    let next = drop (suc (suc i)) digits in
    let in_room : suc i < length digits = omega (arith, s.place, s.room) in
    let stored : drop (suc i) (set digits (suc i) d) ≡ d ∷ next =
    drop-set digits (suc i) d in_room ∙ ap (λ (k : ℕ). d ∷ drop k digits) (add-one (suc i)) in
    let e : decimal n ≡ decimal_within (suc i) (rest / 10) ++ drop (suc i) (set digits (suc i) d) =
    s.whole
    ∙ ap (λ (l : List ℕ). l ++ next) (later (suc i) rest h)
    ∙ append_assoc (decimal_within (suc i) (rest / 10)) (d ∷ []) next
    ∙ ap (λ (l : List ℕ). decimal_within (suc i) (rest / 10) ++ l) (sym stored) in
    record {
      place = omega (arith, s.place);
      room = length-set digits (suc i) d ∙ s.room;
      small = omega (arith, s.small, pow-suc 10 (suc i));
      whole = e;
    }

pub storing_more : {n i rest : ℕ} {digits : List ℕ} → Storing n i rest digits → 10 ≤ rest
    → Storing n (i - 1) (rest / 10) (set digits i (48 + rest % 10))
storing_more {i = zero} s h = absurd (omega (arith, s.small))
storing_more {n} {i = suc i} {rest} {digits} s h =
    let e : i ≡ suc i - 1 = omega arith in
    subst (λ (k : ℕ). Storing n k (rest / 10) (set digits (suc i) (48 + rest % 10))) e (storing_next s h)

pub storing_all : {n i rest : ℕ} {digits : List ℕ} → Storing n i rest digits → rest < 10 → drop i (set digits i (48 + rest)) ≡ decimal n
storing_all {n} {i} {rest} {digits} s h =
    let in_room : i < length digits = omega (arith, s.place, s.room) in
    drop-set digits i (48 + rest) in_room
    ∙ ap (λ (k : ℕ). (48 + rest) ∷ drop k digits) (add-one i)
    ∙ ap (λ (l : List ℕ). l ++ drop (suc i) digits) (sym (first i rest h))
    ∙ sym s.whole

-- the definition on some numbers
numbers : decimal 0 ++ decimal 7 ++ decimal 10 ++ decimal 4096 ≡ ascii "07104096"
unfolding decimal_within
numbers = refl
