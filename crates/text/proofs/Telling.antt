-- A form told byte by byte: nothing yet, a number or a byte more, and all of it. Assumes nothing.
use mathlib.Core.Path.{◌≡◌, refl, sym, ap, ◌∙◌}
use mathlib.Core.Bool.{false}
use mathlib.Core.List.{List, [], ◌∷◌, ◌++◌}
use mathlib.Core.Logic.{◌⊎◌, inl, inr}
use Prim.Native.Nat.{ℕ, suc, ◌+◌, ◌-◌, ◌*◌, ◌≤◌, ◌<◌}
use native.Mathlib.Numerals.{add-one}
use native.Mathlib.Omega.{arith}
use lib.Dec.{eqb}
use lib.ListN.{length, get_or, set, drop, length-set}
use lib.Seq.{drop-cons, drop-length}
use Rattle.text.specs.Text.{decimal, told, Said}
use Rattle.text.proofs.Decimal.{length_decimal}
use Rattle.text.proofs.Saying.{said_none, said_next, said_size, said_byte, said_as}

-- a byte that stands for itself: it is no `%`, or no number is left
stands : (b : ℕ) (form numbers : List ℕ) → eqb b 37 ≡ false ⊎ length numbers ≡ 0 → told (b ∷ form) numbers ≡ (b ∷ []) ++ told form numbers
unfolding told
stands b form [] h = refl
stands b form (n ∷ numbers) (inl h) = rw (h, told)
stands b form (n ∷ numbers) (inr h) = absurd (omega arith)

nothing : (numbers : List ℕ) → told [] numbers ≡ []
unfolding told
nothing numbers = refl

-- what is left of a form after i bytes: a number or a byte first
number_first : (form : List ℕ) (i n : ℕ) (more : List ℕ) → i < length form → get_or form i 0 ≡ 37
    → told (drop i form) (n ∷ more) ≡ decimal n ++ told (drop (i + 1) form) more
unfolding told
number_first form i n more h e = rw (add-one, drop-cons form i 0, e) refl

byte_first : (form : List ℕ) (i : ℕ) (left : List ℕ) → i < length form → eqb (get_or form i 0) 37 ≡ false ⊎ length left ≡ 0
    → told (drop i form) left ≡ (get_or form i 0 ∷ []) ++ told (drop (i + 1) form) left
byte_first form i left h e = rw (add-one, drop-cons form i 0) (stands (get_or form i 0) (drop (suc i) form) left e)

-- i bytes of a form have been told: with what is left of it, and of the numbers, the form is told, and there is room for it
pub record Telling (form numbers old : List ℕ) (at i : ℕ) (left new : List ℕ) (next : ℕ) : Type 0 where
  pub size : length new ≡ length old
  pub room : next + (length form - i) + 20 * length left ≤ at + (length form + 20 * length numbers)
  pub whole : {last : List ℕ} {end : ℕ} → Said new next (told (drop i form) left) last end → Said old at (told form numbers) last end

pub telling_none : (form numbers old : List ℕ) (at : ℕ) → Telling form numbers old at 0 numbers old at
telling_none form numbers old at = record { size = refl; room = omega arith; whole = λ s. s }

module _ {form numbers old : List ℕ} {at i : ℕ} {left new : List ℕ} {next : ℕ} (so_far : Telling form numbers old at i left new next)
    (fits : at + (length form + 20 * length numbers) ≤ length old) where
  pub telling_number : {n : ℕ} {more last : List ℕ} {end : ℕ} → i < length form → get_or form i 0 ≡ 37 → left ≡ n ∷ more
      → Said new next (decimal n) last end → Telling form numbers old at (i + 1) more last end
  telling_number {n} {more} in_form e f s =
      let l = length_decimal n in
      let small : next + length (decimal n) ≤ length new = omega (arith, so_far.room, so_far.size, ap length f) in
      record {
        size = said_size small s ∙ so_far.size;
        room = omega (arith, so_far.room, s.place, ap length f);
        whole =
            λ t. so_far.whole
            (said_as (sym (ap (told (drop i form)) f ∙ number_first form i n more in_form e)) (said_next small s t));
      }

  pub telling_byte : i < length form → eqb (get_or form i 0) 37 ≡ false ⊎ length left ≡ 0
      → Telling form numbers old at (i + 1) left (set new next (get_or form i 0)) (next + 1)
  telling_byte in_form h =
      let small : next < length new = omega (arith, so_far.room, so_far.size) in
      let s = said_byte new next (get_or form i 0) small in
      record {
        size = length-set new next (get_or form i 0) ∙ so_far.size;
        room = omega (arith, so_far.room);
        whole = λ t. so_far.whole (said_as (sym (byte_first form i left in_form h)) (said_next (omega arith) s t));
      }

  pub telling_all : i ≡ length form → Said old at (told form numbers) new next × (next ≤ at + (length form + 20 * length numbers))
  telling_all e = (so_far.whole (said_as (sym (end e)) (said_none new next)), omega (arith, so_far.room))
    where
      end : i ≡ length form → told (drop i form) left ≡ []
      end e = rw (e, drop-length) (nothing left)
