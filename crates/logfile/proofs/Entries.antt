-- What a line says, by the words that are found in it. Assumes nothing.
use mathlib.Core.Path.{◌≡◌, ap}
use mathlib.Core.List.{List}
use Prim.Native.Nat.{ℕ}
use borrow.Author.Tests.{eq-eqb, ne_eqb}
use lib.ListN.{length}
use Rattle.logfile.specs.Log.{up_to, past, next_word, number_of, pair_of, entry_by, entry_from, entry_of}
use Rattle.logfile.specs.declared.Entry.TheVariants.{Nothing, Transfer, NoPair}
use Rattle.logfile.specs.declared.Stop.TheVariants.{Comment, Blank, Word}
use Rattle.std.specs.Prelude.{Some, None, Option}

pub no_start : (r q : Option ℕ) → r ≡ None → NoPair ≡ pair_of r q
no_start r q e = rw e

pub no_end : (r q : Option ℕ) (s : ℕ) → r ≡ Some s → q ≡ None → NoPair ≡ pair_of r q
no_end r q s e f = rw (e, f)

pub a_pair : (r q : Option ℕ) (s e : ℕ) → r ≡ Some s → q ≡ Some e → Transfer s e ≡ pair_of r q
a_pair r q s e f g = rw (f, g)

module _ (line first : List ℕ) (is : first ≡ past Word (up_to Comment line)) where
  from_first : entry_from first ≡ entry_of line
  unfolding entry_of
  from_first = ap entry_from is

  pub says_nothing : length first ≡ 0 → Nothing ≡ entry_of line
  says_nothing e = rw (eq-eqb _ _ e) at from_first

  module _ (some : length first ≡ 0 → ⊥) (second rest : List ℕ) (second_is : second ≡ next_word first) (rest_is : rest ≡ next_word second) where
    from_words : entry_by first second rest ≡ entry_of line
    from_words = rw (rest_is, second_is) from_first

    pub says_more : (length rest ≡ 0 → ⊥) → NoPair ≡ entry_of line
    says_more n = rw (ne_eqb _ _ some, ne_eqb _ _ n) at from_words

    pub says_pair : length rest ≡ 0 → pair_of (number_of (up_to Blank first)) (number_of (up_to Blank second)) ≡ entry_of line
    says_pair e = rw (ne_eqb _ _ some, eq-eqb _ _ e) at from_words
