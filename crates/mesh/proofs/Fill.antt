-- A loop that stores v i at f i, for i from 0: one store more, and what was right stays right; and what is written at the front of a list.
-- Assumes nothing.
use mathlib.Core.Path.{◌≡◌, refl, sym, ap, ◌∙◌}
use mathlib.Core.Bool.{Bool, true, false}
use mathlib.Core.List.{List, ◌++◌}
use Prim.Native.Nat.{ℕ, ◌+◌, ◌-◌, ◌<◌, ◌≤◌}
use native.Mathlib.Omega.{arith}
use borrow.Author.Count.{below_more}
use borrow.Author.Tests.{ltb-true, ltb-false}
use lib.ListN.{length, get_or, set, take, drop, replicate, length-set, length-take, length-append, length-drop, length-replicate, get_or-append, get_or-replicate}
use lib.Seq.{get_or-set_same, get_or-set_other, get_or-append-add, get_or-drop, ext_get_or}
use lib.Dec.{ltb}
use Rattle.mesh.specs.Fill.{Filled}

pub fill_none : (f v : ℕ → ℕ) (old : List ℕ) → Filled f v old old 0
fill_none f v old = record { at = λ i h. absurd (omega arith); kept = λ k h. refl; size = refl }

pub fill_more : (f v : ℕ → ℕ) (old new : List ℕ) (n k x : ℕ) → Filled f v old new n → k < length new
    → ((i : ℕ) → i < n → f i ≡ k → ⊥) → k ≡ f n → x ≡ v n → Filled f v old (set new k x) (n + 1)
fill_more f v old new n k x F l apart is e = record {
  at = below_more (λ i. get_or (set new k x) (f i) 0 ≡ v i) n
      (λ i h. get_or-set_other new k (f i) x 0 (apart i h) ∙ F.at i h)
      (rw (← is) (get_or-set_same new k x 0 l ∙ e));
  kept = λ j h. get_or-set_other new k j x 0 (λ q. h n (omega arith) (q ∙ is)) ∙ F.kept j (λ i l. h i (omega arith));
  size = length-set new k x ∙ F.size;
}

-- "Longer outputs keep their remaining places": l at the front, and after it what was there
module _ (l old : List ℕ) (n : ℕ) (e : length l ≡ n) where
  pub front_at : (k : ℕ) → k < n → get_or (l ++ drop n old) k 0 ≡ get_or l k 0
  front_at k h = get_or-append l (drop n old) 0 k (omega arith)

  pub front_kept : (k : ℕ) → n ≤ k → get_or (l ++ drop n old) k 0 ≡ get_or old k 0
  front_kept k h =
      let q : k ≡ length l + (k - n) = omega arith in
      let r : n + (k - n) ≡ k = omega arith in
      ap (λ (j : ℕ). get_or (l ++ drop n old) j 0) q
      ∙ get_or-append-add l (drop n old) (k - n) 0
      ∙ get_or-drop n old (k - n) 0
      ∙ ap (λ (j : ℕ). get_or old j 0) r

  pub front_size : n ≤ length old → length (l ++ drop n old) ≡ length old
  front_size room = omega (arith, length-append l (drop n old), length-drop n old)

-- v i stored at each i below n
pub filled_front : (v : ℕ → ℕ) (old l : List ℕ) (n : ℕ) → n ≤ length old → length l ≡ n → ((i : ℕ) → i < n → get_or l i 0 ≡ v i) → Filled (λ i. i) v old (l ++ drop n old) n
filled_front v old l n room e written = record {
  at = λ i h. front_at l old n e i h ∙ written i h;
  kept = λ k other. front_kept l old n e k (past k (ltb k n) refl other);
  size = front_size l old n e room;
}
  where
    past : (k : ℕ) (t : Bool) → ltb k n ≡ t → ((i : ℕ) → i < n → k ≡ i → ⊥) → n ≤ k
    past k true h other = absurd (other k (ltb-true k n h) refl)
    past k false h other = ltb-false k n h

-- `fill`
pub cleared : (old l : List ℕ) (n : ℕ) → n ≤ length old → l ≡ replicate (length (take n old)) 0 → Filled (λ i. i) (λ i. 0) old (l ++ drop n old) n
cleared old l n room e =
    let all : length (take n old) ≡ n = omega (arith, length-take n old) in
    filled_front (λ i. 0) old l n room (ap length e ∙ length-replicate (length (take n old)) 0 ∙ all)
    (λ i h. ap (λ (l : List ℕ). get_or l i 0) e ∙ get_or-replicate (length (take n old)) i 0 0 (omega (arith, all)))

-- and nothing else is so
pub front : (l old new : List ℕ) (n : ℕ) → length l ≡ n → n ≤ length old → length new ≡ length old
    → ((k : ℕ) → k < n → get_or new k 0 ≡ get_or l k 0) → ((k : ℕ) → n ≤ k → get_or new k 0 ≡ get_or old k 0) → new ≡ l ++ drop n old
front l old new n e room size written kept =
    ext_get_or 0 new (l ++ drop n old) (size ∙ sym (front_size l old n e room)) (λ k h. split k (ltb k n) refl)
  where
    split : (k : ℕ) (t : Bool) → ltb k n ≡ t → get_or new k 0 ≡ get_or (l ++ drop n old) k 0
    split k true h = let i = ltb-true k n h in written k i ∙ sym (front_at l old n e k i)
    split k false h = let i = ltb-false k n h in kept k i ∙ sym (front_kept l old n e k i)
