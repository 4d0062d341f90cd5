-- The byte rule reads six bytes, and what it gives grows with the marks that they hold. Assumes nothing.
use mathlib.Core.Path.{◌≡◌, ap, fun_ext}
use mathlib.Core.Bool.{Bool}
use mathlib.Core.Logic.{inr}
use Prim.Native.Nat.{ℕ, ◌<◌}
use lib.Dec.{T, eqb}
use Rattle.mesh.specs.Steps.{ahead, runs_down}
use Rattle.rules.specs.Marks.{Kind, heading, byte_of, has, is_word, rule, byte_blocks, rule_byte}
use Rattle.mesh.specs.declared.Sizes.{Sizes}
use Rattle.mesh.proofs.Tests.{T-or}
use Rattle.mesh.proofs.Steps.{dir_lt}
use Rattle.rules.proofs.Rule.{rule_same, rule_grows}
use Rattle.rules.proofs.Bytes.{has_byte, word_not_one}
use Rattle.talk.specs.Sound.{◌no_more_than◌}

-- a byte that holds the marks of a word blocks where the word does
pub word_blocks : (v w : ℕ) → T (is_word v) → v no_more_than w → (a : Kind) → T (byte_blocks v a) → T (byte_blocks w a)
unfolding byte_blocks
word_blocks v w t f a b = (T-or (eqb w 1) (has w a)).1 (inr (f a (rw (word_not_one v t) at b)))

module _ (S : Sizes) (o : ℕ) (g h : ℕ → ℕ) where
  abbrev blocked : (ℕ → ℕ) → Kind → ℕ → Bool
  blocked f a j = byte_blocks (f j) a

  pub ruled_same : ((j : ℕ) → j < 6 → g j ≡ h j) → rule_byte S o g ≡ rule_byte S o h
  unfolding rule_byte
  ruled_same e = ap byte_of (fun_ext λ a. rule_same S (heading o a) (heading o a) (blocked g a) (blocked h a) λ x c.
      ap (λ (b : ℕ). byte_blocks b a) (e (ahead (heading o a) x) (dir_lt x (runs_down (heading o a) x))))

  pub ruled_grows : ((j : ℕ) → j < 6 → (a : Kind) → T (byte_blocks (g j) a) → T (byte_blocks (h j) a)) → rule_byte S o g no_more_than rule_byte S o h
  unfolding rule_byte
  ruled_grows f a t = rw (has_byte (λ a. rule S (heading o a) (blocked h a)) a) (rule_grows S (heading o a) (heading o a) (blocked g a) (blocked h a)
      (λ x c. f (ahead (heading o a) x) (dir_lt x (runs_down (heading o a) x)) a)
      (rw (has_byte (λ a. rule S (heading o a) (blocked g a)) a) at t))
