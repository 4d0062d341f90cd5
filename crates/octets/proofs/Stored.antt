-- What is stored leaves the length, and bytes stored one after the other are stored together. Assumes nothing.
use mathlib.Core.Path.{◌≡◌, sym, ap, ◌∙◌}
use mathlib.Core.List.{List, ◌++◌, append_assoc}
use Prim.Native.Nat.{ℕ, ◌+◌, ◌≤◌}
use native.Mathlib.Nat.{zero-add, add_assoc}
use native.Mathlib.Omega.{arith}
use lib.ListN.{length, take, drop, length-append, length-drop}
use lib.Seq.{length-take-le, take_at, drop_at, drop-drop}
use Rattle.octets.specs.Stored.{stored}

module _ (out : List ℕ) (at : ℕ) (bytes : List ℕ) (fits : at + length bytes ≤ length out) where
  head_size : length (take at out ++ bytes) ≡ at + length bytes
  head_size = length-append (take at out) bytes ∙ ap (λ (n : ℕ). n + length bytes) (length-take-le at out (omega arith))

  -- "Longer outputs keep their remaining places", and none is added
  pub length_stored : length (stored out at bytes) ≡ length out
  length_stored =
      length-append (take at out ++ bytes) (drop (at + length bytes) out)
      ∙ omega (arith, head_size, length-drop (at + length bytes) out)

  pub stored_next : (more : List ℕ) → stored (stored out at bytes) (at + length bytes) more ≡ stored out at (bytes ++ more)
  stored_next more =
      let rest = drop (at + length bytes) out in
      let e : at + length bytes + length more ≡ at + length (bytes ++ more) =
      add_assoc at (length bytes) (length more) ∙ ap (λ (n : ℕ). at + n) (sym (length-append bytes more)) in
      ap (λ (l : List ℕ). l ++ more ++ drop (at + length bytes + length more) (stored out at bytes))
      (take_at (take at out ++ bytes) rest (at + length bytes) head_size)
      ∙ ap (λ (l : List ℕ). take at out ++ bytes ++ more ++ l) (kept more ∙ ap (λ (n : ℕ). drop n out) e)
      ∙ ap (λ (l : List ℕ). l ++ drop (at + length (bytes ++ more)) out) (append_assoc (take at out) bytes more)
    where
      kept : (more : List ℕ) → drop (at + length bytes + length more) (stored out at bytes) ≡ drop (at + length bytes + length more) out
      kept more =
          sym (drop-drop (length more) (at + length bytes) (stored out at bytes))
          ∙ ap (drop (length more)) (drop_at (take at out ++ bytes) (drop (at + length bytes) out) (at + length bytes) head_size)
          ∙ drop-drop (length more) (at + length bytes) out

pub stored_front : (out bytes : List ℕ) → stored out 0 bytes ≡ bytes ++ drop (length bytes) out
stored_front out bytes = ap (λ (n : ℕ). bytes ++ drop n out) (zero-add (length bytes))
