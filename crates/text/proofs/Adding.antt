-- What is added to a page one after the other is added together. Assumes nothing.
use mathlib.Core.Path.{◌≡◌, refl, sym, ap, ◌∙◌, subst}
use mathlib.Core.List.{List, [], ◌++◌, append_assoc, append-nil}
use Prim.Native.Nat.{ℕ, zero, suc, ◌+◌, ◌*◌, ◌≤◌, ◌<◌}
use native.Mathlib.Nat.{mul-suc}
use native.Mathlib.Numerals.{add-one}
use native.Mathlib.Omega.{arith}
use lib.ListN.{length}
use Rattle.text.specs.Text.{pieces, Added}

pub added_none : (old : List ℕ) → Added old [] 0 old
added_none old = record { text_is = sym (append-nil old); in_room = omega arith }

pub added_then : {old word : List ℕ} {w : ℕ} {new more : List ℕ} {v : ℕ} {last : List ℕ} → Added old word w new → Added new more v last
    → Added old (word ++ more) (w + v) last
added_then {old} {word} {more = more} s t =
    record {
      text_is = t.text_is ∙ ap (λ (l : List ℕ). l ++ more) s.text_is ∙ append_assoc old word more;
      in_room = omega (arith, s.in_room, t.in_room);
    }

-- the same words, otherwise written, and more room
pub added_as : {old word other : List ℕ} {w : ℕ} {new : List ℕ} → word ≡ other → Added old word w new → Added old other w new
added_as {old} {w = w} {new = new} e s = subst (λ (t : List ℕ). Added old t w new) e s

pub added_within : {old word : List ℕ} {w v : ℕ} {new : List ℕ} → w ≤ v → Added old word w new → Added old word v new
added_within h s = record { text_is = s.text_is; in_room = omega (arith, s.in_room) }

-- what a blank page holds
pub written : {old word : List ℕ} {w : ℕ} {new : List ℕ} → old ≡ [] → Added old word w new → new ≡ word
written {word = word} e s = s.text_is ∙ ap (λ (l : List ℕ). l ++ word) e

-- and how much of it, where it is a text that is known
pub filled : {old word text : List ℕ} {w v : ℕ} {new : List ℕ} → old ≡ [] → Added old word w new → word ≡ text → w ≤ v → (new ≡ text) × (length new ≤ v)
filled b s e h = (written b s ∙ e, omega (arith, s.in_room, ap length b))

-- one more of n texts of at most w bytes
pub added_turn : (w n : ℕ) {old so_far more all new last : List ℕ} → all ≡ so_far ++ more → Added old so_far (w * n) new → Added new more w last
    → Added old all (w * (n + 1)) last
added_turn w n e s t =
    let size : w * (n + 1) ≡ w * n + w = ap (λ (k : ℕ). w * k) (add-one n) ∙ mul-suc w n in
    added_within (omega arith) (added_as (sym e) (added_then s t))

-- pieces of at most w bytes: none yet, and one more
pub pieces_more : (f : ℕ → List ℕ) (n : ℕ) → pieces f (n + 1) ≡ pieces f n ++ f n
unfolding pieces
pieces_more f n = rw add-one

pub pieces_same : (f g : ℕ → List ℕ) (n : ℕ) → ((i : ℕ) → i < n → f i ≡ g i) → pieces f n ≡ pieces g n
unfolding pieces
pieces_same f g zero h = refl
pieces_same f g (suc n) h = rw (h n (omega arith), pieces_same f g n λ i l. h i (omega arith))

pub added_no_piece : (f : ℕ → List ℕ) (w : ℕ) (old : List ℕ) → Added old (pieces f 0) (w * 0) old
unfolding pieces
added_no_piece f w old = added_within (omega arith) (added_none old)

pub added_piece : (f : ℕ → List ℕ) (w n : ℕ) {old new last : List ℕ} → Added old (pieces f n) (w * n) new → Added new (f n) w last
    → Added old (pieces f (n + 1)) (w * (n + 1)) last
added_piece f w n = added_turn w n (pieces_more f n)
