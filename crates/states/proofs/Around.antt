-- What is read around a node, by how far apart the numbers of neighbours are, and as 01 reads it. Assumes nothing.
use mathlib.Core.Path.{◌≡◌, refl, sym, ap, ◌∙◌}
use mathlib.Core.Bool.{Bool, true, false, cond}
use mathlib.Core.List.{List}
use Prim.Native.Nat.{ℕ, ◌+◌, ◌-◌, ◌*◌, ◌%◌, ◌^◌, ◌<◌, ◌≤◌}
use native.Mathlib.Omega.{arith}
use native.Mathlib.Nat.{mul-lt-mul_of_pos_left}
use lib.Dec.{T, eqb, ltb, eqb→eq, ltb→lt}
use lib.ListN.{length}
use borrow.Author.Tests.{ltb-true}
use Rattle.std.specs.Bool.{IsTrue}
use Rattle.mesh.specs.Mesh.{Axis, span, on, nodes, number, place_of, InRange, Inside}
use Rattle.mesh.specs.Steps.{next, along}
use Rattle.mesh.specs.Cells.{Map}
use Rattle.rules.specs.Marks.{read_by, read_at}
use Rattle.mesh.specs.declared.Sizes.{Sizes}
use Rattle.mesh.specs.declared.Place.{Place}
use Rattle.mesh.proofs.Numbers.{nodes_le, number_lt, place_of_lem, place_in}
use Rattle.mesh.proofs.Steps.{put, next_along, next_in}
use Rattle.mesh.proofs.Strides.{stride, up_lt, up_is, down_le, down_is}
use Rattle.talk.specs.State.{own, map_in}
use Rattle.states.specs.Six.{Ready, Held, Laid, around_at, around, shows}
use Rattle.talk.proofs.State.{wall_in}
use Rattle.std.specs.Prelude.{Some, None, Option}

-- the number before, in 64 bits
abbrev before : ℕ → ℕ → ℕ
before k step = (k + (2 ^ 64 - step)) % 2 ^ 64

before_is : (k step : ℕ) → step ≤ k → k < 2 ^ 64 → before k step ≡ k - step
before_is k step l h = omega arith

module _ (S : Sizes) (f : ℕ → ℕ) where
  around_cond : (t : Bool) (q : Place) (n : ℕ) → (T t → number S q ≡ n) → around_at S f (cond t (Some q) None) ≡ cond t (f n) 8
  around_cond true q n e = ap f (e tt)
  around_cond false q n e = refl

  -- on an axis, for the number that the code has found
  module _ (r : InRange S) (p : Place) (i : Inside S p) (k : ℕ) (e : k ≡ number S p) (a : Axis) where
    pub around_up : around S f k (along a false) ≡ cond (ltb (on p a + 1) (span S a)) (f (k + stride S a)) 8
    unfolding around
    around_up = rw (e, place_of_lem S p i, next_along S p i a false)
        (around_cond (ltb (on p a + 1) (span S a)) (put a p (on p a + 1)) (number S p + stride S a) λ t. up_is S p i a)

    pub around_down : around S f k (along a true) ≡ cond (ltb 0 (on p a)) (f (before k (stride S a))) 8
    unfolding around
    around_down = rw (e, place_of_lem S p i, next_along S p i a true)
        (around_cond (ltb 0 (on p a)) (put a p (on p a - 1)) (before (number S p) (stride S a)) λ t.
        let l = ltb→lt 0 (on p a) t in
        down_is S p i a l ∙ sym (before_is (number S p) (stride S a) (down_le S p i a l) (omega (arith, number_lt S p i, nodes_le S r))))

  -- bytes are read
  pub around_byte : ((i : ℕ) → f i < 256) → (k j : ℕ) → around S f k j < 256
  unfolding around
  around_byte b k j = go (next S (place_of S k) j)
    where
      go : (n : Option Place) → around_at S f n < 256
      go None = omega arith
      go (Some q) = b (number S q)

-- where 01 reads of each neighbour what f gives
module _ (m : Map) (bytes : Place → ℕ) (f : ℕ → ℕ)
    (is : (p : Place) (j : ℕ) (q : Place) → Inside m.sizes q → read_by m bytes p j (Some q) ≡ f (number m.sizes q)) where
  abbrev S : Sizes
  S = m.sizes

  pub around_read : (k j : ℕ) → k < nodes S → read_at m bytes (place_of S k) j ≡ around S f k j
  unfolding around
  around_read k j l = go (next S (place_of S k) j) refl
    where
      go : (n : Option Place) → next S (place_of S k) j ≡ n → read_by m bytes (place_of S k) j n ≡ around_at S f n
      go None e = refl
      go (Some q) e = is (place_of S k) j q (next_in S (place_of S k) q (place_in S k l) j e)

one_itself : (n : ℕ) → cond (eqb n 1) 1 n ≡ n
one_itself n = go (eqb n 1) (eqb→eq n 1)
  where
    go : (t : Bool) → (T t → n ≡ 1) → cond t 1 n ≡ n
    go true f = sym (f tt)
    go false f = refl

-- a neighbour shows what is read of it
pub shows_read : (S : Sizes) (s : List ℕ) (k j : ℕ) → k < nodes S
    → read_at (map_in S s) (λ q. own s (number S q)) (place_of S k) j ≡ shows S s k j
shows_read S s = around_read (map_in S s) (λ q. own s (number S q)) (own s)
    λ p j q i. rw (wall_in S s p j q i) (one_itself (own s (number S q)))

-- ---- what the code asks before it reads

pub held : (S : Sizes) (s : List ℕ) → Ready S s → (k : ℕ) → k < nodes S → Held s k
held S s r k h = record { low = omega (arith, nodes_le S r.sized); room = omega (arith, r.long) }

module _ (S : Sizes) (bytes : List ℕ) (per : ℕ) (r : InRange S) (u : 1 ≤ per) (e : length bytes ≡ per * nodes S)
    (p : Place) (i : Inside S p) (k : ℕ) (q : k ≡ number S p) (a : Axis) where
  laid : (k : ℕ) → k < nodes S → Laid bytes per k
  laid k h = record { low = omega (arith, nodes_le S r); room = rw e (mul-lt-mul_of_pos_left h u) }

  pub above : IsTrue (ltb (on p a + 1) (span S a)) → Laid bytes per (k + stride S a)
  above t = rw q (laid (number S p + stride S a) (up_lt S p i a (ltb-true (on p a + 1) (span S a) t)))

  pub below : IsTrue (ltb 0 (on p a)) → Laid bytes per (before k (stride S a))
  below t =
      let n = number_lt S p i in
      let l = down_le S p i a (ltb-true 0 (on p a) t) in
      rw (q, before_is (number S p) (stride S a) l (omega (arith, nodes_le S r))) (laid (number S p - stride S a) (omega arith))
