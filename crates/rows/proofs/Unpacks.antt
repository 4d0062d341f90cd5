-- Rows of bits added to bytes. Assumes nothing.
use mathlib.Core.Path.{◌≡◌, refl, sym, ap, ◌∙◌}
use mathlib.Core.Bool.{Bool, true, false}
use mathlib.Core.List.{List}
use Prim.Native.Nat.{ℕ, ◌+◌, ◌-◌, ◌*◌, ◌/◌, ◌%◌, ◌^◌, ◌<◌, ◌≤◌}
use native.Mathlib.Nat.{zero-add, mul-zero, mul-one}
use native.Mathlib.Omega.{arith}
use borrow.Author.Tests.{ltb-true, ltb-false}
use lib.ListN.{length, get_or, set}
use lib.Dec.{ltb}
use lib.Pow.{shr-shr}
use Rattle.mesh.specs.Tools.{bit}
use Rattle.mesh.specs.Fill.{Filled}
use Rattle.mesh.proofs.Fill.{fill_more}
use Rattle.rows.specs.Row.{bit_at, onwards, Span}
use Rattle.rows.specs.Bytes.{joined, turned, Takes, Added}
use Rattle.rows.proofs.Bits.{read_at, at_byte}
use Rattle.rows.proofs.Words.{joined_lt, joined_add, byte_of}

-- v is added or not
part_le : (v : ℕ) (b : Bool) → v * bit b ≤ v
part_le v true = rw mul-one (omega arith)
part_le v false = rw mul-zero (omega arith)

-- w nodes have cells, each its own
inside : (l : List ℕ) (down : Bool) (from w : ℕ) → Span l down from w → (k : ℕ) → k < w → onwards down from k < length l
inside l true from w s k h = omega (arith, s.starts)
inside l false from w s k h = omega (arith, s.high refl)

apart : (l : List ℕ) (down : Bool) (from w : ℕ) → Span l down from w → (i k : ℕ) → i < k → k < w → onwards down from i ≡ onwards down from k → ⊥
apart l true from w s i k h g e = omega (arith, s.low refl)
apart l false from w s i k h g e = omega arith

-- One by one: the byte of the next node, at q, is as it was, and takes what it gets.
pub few_more : (old new : List ℕ) (down : Bool) (from w bits v : ℕ) → Span old down from w → (k q : ℕ) → k < w → Added old new down from k bits v → q ≡ onwards down from k
    → Added old (set new q (get_or new q 0 + v * (bits / 2 ^ k % 2))) down from (k + 1) bits v
few_more old new down from w bits v s k q h A is =
    let same : get_or new q 0 ≡ get_or old (onwards down from k) 0
    = rw is (A.kept (onwards down from k) (λ i l e. apart old down from w s i k l h (sym e))) in
    let room : q < length new = rw (is, A.size) (inside old down from w s k h) in
    fill_more (λ i. onwards down from i) (λ i. get_or old (onwards down from i) 0 + v * bit (bit_at bits i)) old new k q _ A
    room (λ i l e. apart old down from w s i k l h (e ∙ is)) is (rw (same, read_at bits k))

-- Eight nodes in the order of their numbers, from the one at p.
turned_lt : (down : Bool) (k : ℕ) → k < 8 → turned down k < 8
turned_lt true k h = omega arith
turned_lt false k h = h

turned_back : (down : Bool) (k : ℕ) → k < 8 → turned down (turned down k) ≡ k
turned_back true k h = omega arith
turned_back false k h = refl

-- from the node j steps on, which are among the w
module _ (old : List ℕ) where
  from_low : (down : Bool) (from w j p : ℕ) → Span old down from w → j + 8 ≤ w → p ≡ onwards down from (j + turned down 0) → (k : ℕ) → k < 8
      → p + k ≡ onwards down from (j + turned down k)
  from_low true from w j p s l is k h = omega (arith, s.low refl)
  from_low false from w j p s l is k h = omega arith

  pub eight_in : (down : Bool) (from w j p : ℕ) → Span old down from w → j + 8 ≤ w → p ≡ onwards down from (j + turned down 0) → p + 8 ≤ length old
  eight_in true from w j p s l is = omega (arith, s.low refl, s.starts)
  eight_in false from w j p s l is = omega (arith, s.high refl)

  pub eight_room : (down : Bool) (from w j p v : ℕ) → Span old down from w → Takes old down from w v → j + 8 ≤ w → p ≡ onwards down from (j + turned down 0)
      → (k : ℕ) → k < 8 → get_or old (p + k) 0 + v ≤ 255
  eight_room down from w j p v s r l is k h =
      let i = turned_lt down k h in
      rw (from_low down from w j p s l is k h) (r (j + turned down k) (omega arith))

  -- the bytes of eight nodes as one word x, and their bits, one to a byte, as y
  abbrev pub byte : Bool → ℕ → ℕ → ℕ → ℕ → ℕ
  byte down bits v p k = get_or old (p + k) 0 + v * bit (bit_at bits (turned down k))

  byte_lt : (down : Bool) (bits v p k : ℕ) → get_or old (p + k) 0 + v ≤ 255 → byte down bits v p k < 256
  byte_lt down bits v p k h = omega (arith, part_le v (bit_at bits (turned down k)))

  module _ (down : Bool) (bits v p x y : ℕ) (ex : x ≡ joined (λ k. get_or old (p + k) 0) 8) (ey : y ≡ joined (λ k. bit (bit_at bits (turned down k))) 8) where
    pub eight_sum : x + v * y ≡ joined (byte down bits v p) 8
    eight_sum = rw (ex, ey) (joined_add (λ k. get_or old (p + k) 0) (λ k. bit (bit_at bits (turned down k))) v 8)

    pub eight_lt : ((k : ℕ) → k < 8 → get_or old (p + k) 0 + v ≤ 255) → x + v * y < 2 ^ 64
    eight_lt room = rw eight_sum (joined_lt (byte down bits v p) 8 (λ k h. byte_lt down bits v p k (room k h)))

  -- such a word, once put, gives each node what its bit says
  word_at : (down : Bool) (bits v p x k : ℕ) (was new : List ℕ) → ((k : ℕ) → k < 8 → get_or old (p + k) 0 + v ≤ 255) → x ≡ joined (byte down bits v p) 8
      → Filled (λ k. p + k) (λ k. x / 2 ^ (8 * k) % 256) was new 8 → k < 8
      → (q : ℕ) → p + turned down k ≡ q → get_or new q 0 ≡ get_or old q 0 + v * bit (bit_at bits k)
  word_at down bits v p x k was new room ex F h q e =
      let i = turned_lt down k h in
      ap (λ j. get_or new j 0) (sym e) ∙ F.at (turned down k) i ∙ ap (λ n. n / 2 ^ (8 * turned down k) % 256) ex
      ∙ byte_of (byte down bits v p) 8 (λ j m. byte_lt down bits v p j (room j m)) (turned down k) i ∙ rw (e, turned_back down k h)

-- the low eight bits of a row; those from bit j on
low_bit : (n k : ℕ) → k < 8 → bit (bit_at (n % 256) k) ≡ bit (bit_at n k)
low_bit n k h = ap bit (at_byte n k h)

bit_on : (n j k : ℕ) → k < 8 → bit (bit_at (n / 2 ^ j % 256) k) ≡ bit (bit_at n (j + k))
bit_on n j k h = low_bit (n / 2 ^ j) k h ∙ sym (read_at (n / 2 ^ j) k) ∙ ap (λ i. i % 2) (shr-shr n j k) ∙ read_at n (j + k)

-- The last eight of w nodes are put, from q on, and then the first eight, from p on.
module _ (old : List ℕ) (down : Bool) (from w bits v p q x y : ℕ) (lo : 8 ≤ w) (hi : w ≤ 16) (s : Span old down from w) (r : Takes old down from w v)
    (isp : p ≡ onwards down from (0 + turned down 0)) (isq : q ≡ onwards down from (w - 8 + turned down 0))
    (ex : x ≡ joined (byte old down (bits % 256) v p) 8) (ey : y ≡ joined (byte old down (bits / 2 ^ (w - 8) % 256) v q) 8) (mid new : List ℕ)
    (Y : Filled (λ k. q + k) (λ k. y / 2 ^ (8 * k) % 256) old mid 8) (X : Filled (λ k. p + k) (λ k. x / 2 ^ (8 * k) % 256) mid new 8) where
  first_at : (k : ℕ) → k < 8 → p + k ≡ onwards down from (turned down k)
  first_at k h = from_low old down from w 0 p s (omega arith) isp k h ∙ ap (λ i. onwards down from i) (zero-add (turned down k))

  last_at : (k : ℕ) → k < 8 → q + k ≡ onwards down from (w - 8 + turned down k)
  last_at k h = from_low old down from w (w - 8) q s (omega arith) isq k h

  pub both : Added old new down from w bits v
  both = record {
    at = λ k h. go k h (ltb k 8) refl;
    kept = λ k h.
        X.kept k (λ i l e. h (turned down i) (let g = turned_lt down i l in omega arith) (e ∙ first_at i l))
        ∙ Y.kept k (λ i l e. h (w - 8 + turned down i) (let g = turned_lt down i l in omega arith) (e ∙ last_at i l));
    size = X.size ∙ Y.size;
  }
    where
      go : (k : ℕ) → k < w → (t : Bool) → ltb k 8 ≡ t → get_or new (onwards down from k) 0 ≡ get_or old (onwards down from k) 0 + v * bit (bit_at bits k)
      go k h true e =
          let l = ltb-true k 8 e in
          let at : p + turned down k ≡ onwards down from k = first_at (turned down k) (turned_lt down k l) ∙ ap (λ j. onwards down from j) (turned_back down k l) in
          word_at old down (bits % 256) v p x k mid new (eight_room old down from w 0 p v s r (omega arith) isp) ex X l (onwards down from k) at
          ∙ rw (low_bit bits k l)
      go k h false e =
          let l = ltb-false k 8 e in
          let n : ℕ = k - (w - 8) in
          let m : n < 8 = omega arith in
          let c : w - 8 + n ≡ k = omega arith in
          let at : q + turned down n ≡ onwards down from k
          = last_at (turned down n) (turned_lt down n m) ∙ ap (λ j. onwards down from (w - 8 + j)) (turned_back down n m) ∙ ap (λ j. onwards down from j) c in
          let z : bit (bit_at (bits / 2 ^ (w - 8) % 256) n) ≡ bit (bit_at bits k) = bit_on bits (w - 8) n m ∙ ap (λ j. bit (bit_at bits j)) c in
          X.kept (onwards down from k) (λ j g o. apart old down from w s (turned down j) k (let u = turned_lt down j g in omega arith) h (sym (o ∙ first_at j g)))
          ∙ word_at old down (bits / 2 ^ (w - 8) % 256) v q y n old mid (eight_room old down from w (w - 8) q v s r (omega arith) isq) ey Y m (onwards down from k) at
          ∙ rw z
