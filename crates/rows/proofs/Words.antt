-- Bytes joined to words. Assumes nothing.
use mathlib.Core.Path.{◌≡◌, refl, sym, ap, ◌∙◌}
use mathlib.Core.List.{List, [], ◌∷◌}
use mathlib.Core.Logic.{inl, inr}
use Prim.Native.Nat.{ℕ, zero, suc, ◌+◌, ◌-◌, ◌*◌, ◌/◌, ◌%◌, ◌^◌, ◌<◌, ◌≤◌}
use native.Mathlib.Nat.{mul-add, mul_left_comm}
use native.Mathlib.Omega.{arith}
use lib.Pow.{pow-add, shr-shr}
use lib.ListN.{length, get_or, take, drop}
use borrow.Rule.Slice.PartMut.{put_mid}
use Rattle.std.proofs.lemmas.Bool.{cases_lt}
use Rattle.std.proofs.lemmas.Grind.{common_steps}
use Rattle.std.proofs.lemmas.List.{get_or-drop, get_or-take}
use Rattle.std.proofs.lemmas.List.Edits.{get_or-between}
use Rattle.std.proofs.lemmas.Slice.{between-put_mid, take-put_mid_below, drop-put_mid}
use Rattle.std.specs.Int.{w64, from_le_bytes, to_le_bytes}
use Rattle.mesh.specs.Fill.{Filled}
use Rattle.mesh.specs.Tools.{table}
use Rattle.mesh.proofs.Tables.{get_d_table}
use Rattle.rows.specs.Row.{bit_at, packed}
use Rattle.rows.specs.Bytes.{joined}
use Rattle.rows.proofs.Bits.{at_after, at_byte}
use Rattle.rows.proofs.Packs.{packed_twice}

joined_same : (f g : ℕ → ℕ) (n : ℕ) → ((k : ℕ) → k < n → f k ≡ g k) → joined f n ≡ joined g n
unfolding joined
joined_same f g zero e = refl
joined_same f g (suc n) e = rw (e 0 (omega arith), joined_same (λ k. f (suc k)) (λ k. g (suc k)) n (λ k l. e (suc k) (omega arith)))

-- one byte more
more : (k : ℕ) → 2 ^ (8 * suc k) ≡ 256 * 2 ^ (8 * k)
more k = ap (λ n. 2 ^ n) (omega arith) ∙ pow-add 2 8 (8 * k)

pub joined_lt : (f : ℕ → ℕ) (n : ℕ) → ((k : ℕ) → k < n → f k < 256) → joined f n < 2 ^ (8 * n)
unfolding joined
joined_lt f zero h = omega arith
joined_lt f (suc n) h = omega (arith, h 0 (omega arith), more n, joined_lt (λ k. f (suc k)) n (λ k l. h (suc k) (omega arith)))

-- each byte of a word
pub byte_of : (f : ℕ → ℕ) (n : ℕ) → ((k : ℕ) → k < n → f k < 256) → (k : ℕ) → k < n → joined f n / 2 ^ (8 * k) % 256 ≡ f k
unfolding joined
byte_of f zero h k l = absurd (omega arith)
byte_of f (suc n) h zero l = let e : 2 ^ (8 * 0) ≡ 1 = refl in rw e (omega (arith, h 0 l))
byte_of f (suc n) h (suc k) l =
    let r : ℕ = joined (λ k. f (suc k)) n in
    let e : (f 0 + 256 * r) / 2 ^ 8 ≡ r = omega (arith, h 0 (omega arith)) in
    ap (λ i. (f 0 + 256 * r) / 2 ^ i % 256) (omega arith) ∙ ap (λ i. i % 256) (sym (shr-shr (f 0 + 256 * r) 8 (8 * k)))
    ∙ rw e (byte_of (λ k. f (suc k)) n (λ k l. h (suc k) (omega arith)) k (omega arith))

-- words are added byte by byte
pub joined_add : (f g : ℕ → ℕ) (v n : ℕ) → joined f n + v * joined g n ≡ joined (λ k. f k + v * g k) n
unfolding joined
joined_add f g v zero = omega arith
joined_add f g v (suc n) =
    let e : v * (g 0 + 256 * joined (λ k. g (suc k)) n) ≡ v * g 0 + 256 * (v * joined (λ k. g (suc k)) n) = rw (mul-add, mul_left_comm v 256) in
    omega (arith, e, joined_add (λ k. f (suc k)) (λ k. g (suc k)) v n)

-- each bit of a word
pub bit_of : (f : ℕ → ℕ) (n : ℕ) → ((k : ℕ) → k < n → f k < 256) → (k j : ℕ) → k < n → j < 8 → bit_at (joined f n) (8 * k + j) ≡ bit_at (f k) j
bit_of f n h k j l m =
    at_after (joined f n) (8 * k) j ∙ sym (at_byte (joined f n / 2 ^ (8 * k)) j m) ∙ ap (λ b. bit_at b j) (byte_of f n h k l)

-- Eight bytes as std reads and writes them.
pub read : (bs : List ℕ) → from_le_bytes w64 bs ≡ joined (λ k. get_or bs k 0) 8
unfolding joined
read bs = omega arith

eight_are : (f : ℕ → ℕ) (v : ℕ) → v ≡ f 0 → (k : ℕ) → k < 8 → get_or (v ∷ f 1 ∷ f 2 ∷ f 3 ∷ f 4 ∷ f 5 ∷ f 6 ∷ f 7 ∷ []) k 0 ≡ f k
unfolding table
eight_are f v e k h = rw e (get_d_table f 8 k 0 h)

written : (x k : ℕ) → k < 8 → get_or (to_le_bytes w64 x) k 0 ≡ x / 2 ^ (8 * k) % 256
written x k h = eight_are (λ i. x / 2 ^ (8 * i) % 256) (x % 256) (omega arith) k h

-- those of a part of a slice, and over a part of one
pub word_is : (l part : List ℕ) (p n : ℕ) → n ≡ 8 → part ≡ take n (drop p l) → from_le_bytes w64 part ≡ joined (λ k. get_or l (p + k) 0) 8
word_is l part p n e is =
    read part ∙ joined_same _ _ 8 (λ k h. ap (λ s. get_or s k 0) is ∙ get_or-take n (drop p l) k 0 (omega arith) ∙ get_or-drop p l k 0)

pub put_over : (x p n : ℕ) (old part : List ℕ) → p + 8 ≤ length old → n ≡ 8 → part ≡ to_le_bytes w64 x
    → Filled (λ k. p + k) (λ k. x / 2 ^ (8 * k) % 256) old (put_mid p n old part) 8
put_over x p n old part fits e is =
    let new : List ℕ = put_mid p n old part in
    let long : length part ≡ 8 = rw is refl in record {
      at = λ k h.
          sym (get_or-between new p (p + 8) k 0 (omega arith))
          ∙ ap (λ l. get_or l k 0) (between-put_mid p n old part (p + 8) (omega arith) (omega arith) ∙ is) ∙ written x k h;
      kept = λ k off. elim (cases_lt k p) [
        | inl l ↦
            sym (get_or-take p new k 0 l) ∙ ap (λ s. get_or s k 0) (take-put_mid_below p n old part p (omega arith) (omega arith)) ∙ get_or-take p old k 0 l
        | inr l ↦
            let far : p + 8 ≤ k = elim (cases_lt k (p + 8)) [ inl m ↦ absurd (off (k - p) (omega arith) (omega arith)) | inr m ↦ m ] in
            let back : p + 8 + (k - (p + 8)) ≡ k = omega arith in
            rw back at (
            sym (get_or-drop (p + 8) new (k - (p + 8)) 0)
            ∙ ap (λ s. get_or s (k - (p + 8)) 0) (drop-put_mid p n old part (p + 8) (omega arith) (omega arith) (omega arith))
            ∙ get_or-drop (p + 8) old (k - (p + 8)) 0
            )
      ];
      size = grind (arith, common_steps);
    }

-- eight bytes named one by one
pub named : (f : ℕ → ℕ) (v : ℕ) → v ≡ f 0 → from_le_bytes w64 (v ∷ f 1 ∷ f 2 ∷ f 3 ∷ f 4 ∷ f 5 ∷ f 6 ∷ f 7 ∷ []) ≡ joined f 8
named f v e =
    let bs : List ℕ = v ∷ f 1 ∷ f 2 ∷ f 3 ∷ f 4 ∷ f 5 ∷ f 6 ∷ f 7 ∷ [] in
    read bs ∙ joined_same (λ k. get_or bs k 0) f 8 (λ k h. eight_are f v e k h)

-- bit j of each byte of two words
pub twice : (f : ℕ → ℕ) → ((k : ℕ) → f k < 256) → (j : ℕ) → j < 8 → (x y : ℕ) → x ≡ joined f 8 → (g : ℕ → ℕ) → y ≡ joined g 8 → ((k : ℕ) → g k ≡ f (8 + k))
    → packed (λ k. bit_at x (8 * k + j)) 8 + 256 * packed (λ k. bit_at y (8 * k + j)) 8 ≡ packed (λ k. bit_at (f k) j) 16
twice f small j hj x y ex g ey on = packed_twice _ _ (λ k. bit_at (f k) j)
    (λ k l. ap (λ n. bit_at n (8 * k + j)) ex ∙ bit_of f 8 (λ i h. small i) k j l hj)
    (λ k l. ap (λ n. bit_at n (8 * k + j)) ey ∙ bit_of g 8 (λ i h. rw on (small (8 + i))) k j l hj ∙ ap (λ b. bit_at b j) (on k))
