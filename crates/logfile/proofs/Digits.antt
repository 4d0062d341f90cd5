-- A number is read digit by digit: one digit on, and where it ends. Assumes nothing.
use mathlib.Core.Path.{◌≡◌, ap, ◌∙◌}
use mathlib.Core.Bool.{true, false, cond, ◌&&◌}
use mathlib.Core.List.{List}
use Prim.Native.Nat.{ℕ, ◌+◌, ◌-◌, ◌*◌, ◌^◌, ◌<◌, ◌≤◌}
use native.Mathlib.Numerals.{add-one}
use borrow.Author.Tests.{lt-ltb, le-ltb}
use lib.Dec.{ltb}
use lib.ListN.{length, get_or, drop, drop_of_length-le}
use lib.Seq.{drop-cons}
use Rattle.logfile.specs.Log.{digit, read_from}
use Rattle.std.specs.Prelude.{Some, None}

module _ (word : List ℕ) (i n : ℕ) (h : i < length word) where
  abbrev byte : ℕ
  byte = get_or word i 0

  abbrev more : ℕ
  more = 10 * n + (byte - 48)

  one_byte : read_from n (drop i word) ≡ cond (digit byte && ltb more (2 ^ 32)) (read_from more (drop (i + 1) word)) None
  unfolding read_from
  one_byte = rw (add-one, drop-cons word i 0 h)

  pub one_digit : digit byte ≡ true → more < 2 ^ 32 → read_from n (drop i word) ≡ read_from more (drop (i + 1) word)
  one_digit d l = one_byte ∙ rw (d, lt-ltb more (2 ^ 32) l)

  pub no_digit : digit byte ≡ false → read_from n (drop i word) ≡ None
  no_digit d = one_byte ∙ rw d

  pub too_large : digit byte ≡ true → 2 ^ 32 ≤ more → read_from n (drop i word) ≡ None
  too_large d l = one_byte ∙ rw (d, le-ltb more (2 ^ 32) l)

pub all_read : (word : List ℕ) (i n : ℕ) → length word ≤ i → read_from n (drop i word) ≡ Some n
unfolding read_from
all_read word i n h = ap (read_from n) (drop_of_length-le word h)
