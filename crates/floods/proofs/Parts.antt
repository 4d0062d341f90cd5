-- The steps of the flood: a place that enters the queue, and the places around one. Assumes nothing.
use mathlib.Core.Path.{◌≡◌, refl, sym, ap, ◌∙◌}
use mathlib.Core.Logic.{◌⊎◌, inl, inr}
use mathlib.Core.List.{List}
use Prim.Native.Nat.{ℕ, suc, ◌+◌, ◌≤◌, ◌<◌}
use native.Mathlib.Omega.{arith}
use native.Mathlib.Numerals.{add-one}
use lib.Dec.{eqb}
use lib.ListN.{length, get_or, set, length-set}
use lib.Seq.{get_or-set_same, get_or-set_other}
use borrow.Author.Tests.{eq-eqb, ne_eqb}
use Rattle.mesh.specs.Tools.{bit, count}
use Rattle.mesh.proofs.Tables.{sum_zero}
use Rattle.grids.specs.Grid.{grid_size, unseen, around, Beside}
use Rattle.floods.proofs.Steps.{last_or_below}
use Rattle.floods.specs.Flood.{Linked, here, onward, how_often, Sized, Visited, entered, passed, Part, Spread, Flooded}
use Rattle.touching.proofs.Counts.{same_or_not, sum_raise, count_le}

-- ---- how often a number stands in a list

pub often_le : (g : List ℕ) (m : ℕ) → how_often g m ≤ length g
often_le g m = count_le (length g) λ j. eqb (get_or g j 0) m

pub often_more : (g : List ℕ) (at m : ℕ) → at < length g → (get_or g at 0 ≡ m → ⊥) → how_often (set g at m) m ≡ suc (how_often g m)
often_more g at m l h =
    ap (λ (n : ℕ). count n (λ j. eqb (get_or (set g at m) j 0) m)) (length-set g at m)
    ∙ sum_raise (length g) (λ j. bit (eqb (get_or g j 0) m)) (λ j. bit (eqb (get_or (set g at m) j 0) m)) at l here_now elsewhere
  where
    here_now : bit (eqb (get_or (set g at m) at 0) m) ≡ suc (bit (eqb (get_or g at 0) m))
    here_now = rw (get_or-set_same g at m 0 l, eq-eqb m m refl, ne_eqb (get_or g at 0) m h)

    elsewhere : (j : ℕ) → (j ≡ at → ⊥) → bit (eqb (get_or (set g at m) j 0) m) ≡ bit (eqb (get_or g j 0) m)
    elsewhere j n = rw (get_or-set_other g at j m 0 n)

-- ---- a place enters the queue

module _ (g : List ℕ) (at m : ℕ) (l : at < length g) where
  pub set_here : (j : ℕ) → j ≡ at → get_or (set g at m) j 0 ≡ m
  set_here j e = rw e (get_or-set_same g at m 0 l)

  -- what held the number still holds it
  pub set_keeps : (j : ℕ) → get_or g j 0 ≡ m → get_or (set g at m) j 0 ≡ m
  set_keeps j e = elim (same_or_not j at) [ inl q ↦ set_here j q | inr n ↦ get_or-set_other g at j m 0 n ∙ e ]

  -- what is unseen now was unseen, and is another place
  pub still_unseen : m < unseen → (j : ℕ) → get_or (set g at m) j 0 ≡ unseen → (get_or g j 0 ≡ unseen) × (j ≡ at → ⊥)
  still_unseen s j e = elim (same_or_not j at) [
    | inl q ↦ absurd (omega (arith, set_here j q))
    | inr n ↦ (sym (get_or-set_other g at j m 0 n) ∙ e, n)
  ]

module _ (g q : List ℕ) (tail at m : ℕ) (s : Sized g q) (l : at < grid_size) (r : tail < grid_size) where
  in_grid : at < length g
  in_grid = omega (arith, s.grid)

  part_entered : {g₀ : List ℕ} {a : ℕ} → Part g₀ a m g q tail → Linked g₀ a at → get_or g₀ at 0 ≡ unseen
      → Part g₀ a m (set g at m) (set q tail at) (tail + 1)
  part_entered {g₀} {a} p k u =
      record {
        kept = λ j. elim (same_or_not j at) [
          | inl h ↦ inr (rw h u, set_here g at m in_grid j h)
          | inr n ↦ rw (get_or-set_other g at j m 0 n) (p.kept j)
        ];
        each = λ t h. elim (same_or_not t tail) [
          | inl w ↦ let x : get_or (set q tail at) t 0 ≡ at = rw w (get_or-set_same q tail at 0 (omega (arith, s.queue))) in
              rw x (u, get_or-set_same g at m 0 in_grid, k)
          | inr n ↦ rw (get_or-set_other q tail t at 0 n) (older t (p.each t (lower t h n)))
        ];
        all = λ j h. elim (same_or_not j at) [
          | inl w ↦ (tail, omega arith, get_or-set_same q tail at 0 (omega (arith, s.queue)) ∙ sym w)
          | inr n ↦ further j (p.all j (sym (get_or-set_other g at j m 0 n) ∙ h))
        ];
      }
    where
      lower : (t : ℕ) → t < tail + 1 → (t ≡ tail → ⊥) → t < tail
      lower t h n = elim (last_or_below t tail h) [ inl w ↦ absurd (n w) | inr w ↦ w ]

      older : (t : ℕ) → (get_or g₀ (get_or q t 0) 0 ≡ unseen) × (get_or g (get_or q t 0) 0 ≡ m) × Linked g₀ a (get_or q t 0)
          → (get_or g₀ (get_or q t 0) 0 ≡ unseen) × (get_or (set g at m) (get_or q t 0) 0 ≡ m) × Linked g₀ a (get_or q t 0)
      older t w = (w.0, set_keeps g at m in_grid (get_or q t 0) w.1, w.2)

      further : (j : ℕ) → (t : ℕ) × (t < tail) × (get_or q t 0 ≡ j) → (t : ℕ) × (t < tail + 1) × (get_or (set q tail at) t 0 ≡ j)
      further j w = (w.0, omega (arith, w.1), get_or-set_other q tail w.0 at 0 (λ e. omega (arith, w.1)) ∙ w.2)

-- what is unseen while the part grows was unseen before
pub unseen_before : {g₀ g q : List ℕ} {a m tail : ℕ} → Part g₀ a m g q tail → m < unseen → (j : ℕ) → get_or g j 0 ≡ unseen → get_or g₀ j 0 ≡ unseen
unseen_before p small j e = elim (p.kept j) [ inl h ↦ sym h ∙ e | inr h ↦ h.0 ]

-- ---- the places around one

module _ {g q g₁ q₁ : List ℕ} {tail from m o end at : ℕ} (s : Sized g₁ q₁) (small : m < unseen) (l : at < grid_size) (b : o < 18)
    (e : at + 307 ≡ from + get_or around o 0) (p : Spread g q tail from m o g₁ q₁ end) where
  -- an unseen place leaves room in the queue
  pub room : get_or g₁ at 0 ≡ unseen → end < grid_size
  room u =
      let more = often_more g₁ at m (omega (arith, s.grid)) (λ h. omega arith) in
      omega (arith, s.grid, length-set g₁ at m, often_le (set g₁ at m) m, p.counted)

  earlier_or_here : (k j : ℕ) → k < o + 1 → j + 307 ≡ from + get_or around k 0 → (k < o) ⊎ (j ≡ at)
  earlier_or_here k j lt f = elim (last_or_below k o lt) [
    | inl w ↦ inr (omega (arith, ap (λ (i : ℕ). get_or around i 0) w))
    | inr w ↦ inl w
  ]

  pub spread_more : {g₂ q₂ : List ℕ} {end₂ : ℕ} → Visited g₁ q₁ end at m g₂ q₂ end₂ → Spread g q tail from m (o + 1) g₂ q₂ end₂
  spread_more (passed h) =
      record {
        grows = p.grows;
        longer = p.longer;
        counted = p.counted;
        first = p.first;
        fewer = p.fewer;
        none_left = λ k j lt f u. elim (earlier_or_here k j lt f) [ inl w ↦ p.none_left k j w f u | inr w ↦ h (rw w at u) ];
      }
  spread_more (entered u) =
      record {
        grows = λ g₀ a d k.
            let w = p.grows g₀ a d k in
            let v : get_or g₀ at 0 ≡ unseen = unseen_before w small at u in
            part_entered g₁ q₁ end at m s l (room u) w (onward k (o, b, e) v) v;
        longer = omega (arith, p.longer);
        counted = often_more g₁ at m (omega (arith, s.grid)) (λ h. omega arith) ∙ ap suc p.counted ∙ sym (add-one end);
        first = λ t h. get_or-set_other q₁ end t at 0 (λ w. omega (arith, p.longer)) ∙ p.first t h;
        fewer = λ j h. p.fewer j (still_unseen g₁ at m (omega (arith, s.grid)) small j h).0;
        none_left = λ k j lt f h.
            let v = still_unseen g₁ at m (omega (arith, s.grid)) small j h in
            elim (earlier_or_here k j lt f) [ inl w ↦ p.none_left k j w f v.0 | inr w ↦ v.1 w ];
      }

-- ---- a whole component

-- Between two turns: `head` places of the queue have been spread from. `h`, `r` and `end` are grid, queue and tail as the first turn began.
pub record Drained (h r : List ℕ) (a m end : ℕ) (g q : List ℕ) (tail head : ℕ) : Type 0 where
  pub sized : Sized g q
  pub grows : (g₀ : List ℕ) → Part g₀ a m h r end → Part g₀ a m g q tail
  pub counted : how_often g m ≡ tail
  pub behind : head ≤ tail
  pub closed : (t j : ℕ) → t < head → Beside (get_or q t 0) j → get_or g j 0 ≡ unseen → ⊥
  pub started : get_or g a 0 ≡ unseen → ⊥

module _ (g : List ℕ) (m : ℕ) (fresh : (j : ℕ) → get_or g j 0 ≡ m → ⊥) where
  none_yet : how_often g m ≡ 0
  none_yet = sum_zero (length g) (λ j. bit (eqb (get_or g j 0) m)) λ j l. rw (ne_eqb (get_or g j 0) m (fresh j))

  part_none : (q : List ℕ) (a : ℕ) → Part g a m g q 0
  part_none q a = record { kept = λ j. inl refl; each = λ t h. absurd (omega arith); all = λ j e. absurd (fresh j e) }

  -- the first place
  pub begins : {a : ℕ} {q h r : List ℕ} {end : ℕ} → Sized g q → m < unseen → a < grid_size → get_or g a 0 ≡ unseen → Visited g q 0 a m h r end
      → Part g a m h r end × (how_often h m ≡ end) × (get_or h a 0 ≡ unseen → ⊥)
  begins s small l u (passed n) = absurd (n u)
  begins {a} {q} s small l u (entered _) =
      let at : a < length g = omega (arith, s.grid) in (
        part_entered g q 0 a m s l (omega arith) (part_none q a) here u,
        often_more g a m at (λ e. omega arith) ∙ ap suc none_yet,
        λ e. (still_unseen g a m at small a e).1 refl,
      )

module _ {h r g q : List ℕ} {a m end tail head : ℕ} (d : Drained h r a m end g q tail head) where
  pub drained_more : {g' q' : List ℕ} {tail' : ℕ} → Sized g' q' → head < tail
      → Spread g q tail (get_or q head 0) m 18 g' q' tail' → Drained h r a m end g' q' tail' (head + 1)
  drained_more {g'} {q'} s l w =
      record {
        sized = s;
        grows = λ g₁ p₁. w.grows g₁ a (d.grows g₁ p₁) ((d.grows g₁ p₁).each head l).2;
        counted = w.counted;
        behind = omega (arith, w.longer);
        closed = λ t j lt b u. elim (last_or_below t head lt) [
          | inl e ↦ let (o, k, f) = rw (e, w.first head l) at b in w.none_left o j k f u
          | inr k ↦ d.closed t j k (rw (w.first t (omega arith)) at b) (w.fewer j u)
        ];
        started = λ e. d.started (w.fewer a e);
      }

  pub drained_all : (g₀ : List ℕ) → Part g₀ a m h r end → get_or g₀ a 0 ≡ unseen → tail ≤ head → Flooded g₀ a m g q tail
  drained_all g₀ p u l =
      let w = d.grows g₀ p in
      record {
        part = w;
        start = elim (w.kept a) [ inl e ↦ absurd (d.started (e ∙ u)) | inr e ↦ e.1 ];
        counted = d.counted;
        closed = λ t j k. d.closed t j (omega (arith, d.behind));
      }
