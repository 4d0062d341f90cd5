-- Where no node has faulty ones ahead on every axis that counts, none is stuck: the first that is would be such a node. Three stretches of cells hold
-- those neighbours of all nodes, each at the same place. Assumes nothing.
use mathlib.Core.Path.{◌≡◌, refl, sym, ap, ◌∙◌, subst}
use mathlib.Core.Bool.{Bool, true, false, cond, ◌&&◌, ◌||◌}
use mathlib.Core.List.{List}
use Prim.Native.Nat.{ℕ, ◌+◌, ◌-◌, ◌*◌, ◌<◌, ◌≤◌}
use native.Mathlib.Omega.{arith}
use native.Mathlib.Nat.{mul-add, mul-le-mul_left}
use borrow.Author.Count.{below_more}
use borrow.Author.Tests.{leb-true, leb-false}
use lib.Bits.{bit_and, bit_or, or_add_and, and_le_l, and_le_r}
use lib.Dec.{T, ltb}
use lib.ListN.{length, get_or, take, drop, length-take, length-drop}
use lib.Seq.{get_or-drop}
use Rattle.std.specs.List.{zip}
use Rattle.std.proofs.lemmas.List.{get_or-take, get_or_default}
use Rattle.std.proofs.lemmas.Slice.Zip.{length-zip, get_or-zip}
use Rattle.mesh.specs.Tools.{bit}
use Rattle.mesh.specs.Mesh.{Axis, X, Y, Z, on, place, nodes, number, InRange, Inside}
use Rattle.mesh.specs.Steps.{runs_down}
use Rattle.mesh.specs.Cells.{Map, faulty, faulty_cell, wall}
use Rattle.rules.specs.Marks.{counted, flip, to_go, marked, stuck}
use Rattle.mesh.proofs.Tests.{T-and, T-le, T-lt, holds_true, bool_ext}
use Rattle.mesh.proofs.Bits.{bit_le}
use Rattle.mesh.proofs.Numbers.{number_lt}
use Rattle.mesh.proofs.Steps.{put}
use Rattle.rules.proofs.Left.{to_go_in, to_go_back}
use Rattle.rules.proofs.Rule.{marked_iff}
use Rattle.rules.proofs.Marks.{blocks_left}
use Rattle.rules.proofs.Stuck.{least}
use Rattle.mesh.specs.declared.Sizes.{Sizes}
use Rattle.mesh.specs.declared.Place.{Place}
use Rattle.marks.specs.Stretches.{on_z, inner, Apart}

-- ---- one place more is looked at

pub or_none : (a b : ℕ) → bit_or a b ≡ 0 → (a ≡ 0) × (b ≡ 0)
or_none a b e =
    let l = and_le_l a b in
    let r = and_le_r a b in
    let q = or_add_and a b in
    (omega arith, omega arith)

pub apart_more : (cells : List ℕ) (p q r i met x y z : ℕ) → (met ≡ 0 → Apart cells p q r i) → x ≡ bit (faulty_cell (get_or cells (p + i) 0))
    → y ≡ bit (faulty_cell (get_or cells (q + i) 0)) → z ≡ bit (faulty_cell (get_or cells (r + i) 0))
    → bit_or met (bit_and (bit_and x y) z) ≡ 0 → Apart cells p q r (i + 1)
apart_more cells p q r i met x y z before ex ey ez e =
    let n = or_none met (bit_and (bit_and x y) z) e in
    below_more (λ i. T (faulty_cell (get_or cells (p + i) 0)) → T (faulty_cell (get_or cells (q + i) 0)) → T (faulty_cell (get_or cells (r + i) 0)) → ⊥) i
    (before n.0)
    (λ tx ty tz.
    let k : ◌≡◌ {A = ℕ} 1 0 = rw (ex ∙ one (p + i) tx, ey ∙ one (q + i) ty, ez ∙ one (r + i) tz) at n.1 in
    absurd (omega arith))
  where
    one : (k : ℕ) → T (faulty_cell (get_or cells k 0)) → bit (faulty_cell (get_or cells k 0)) ≡ 1
    one k t = ap bit ((holds_true (faulty_cell (get_or cells k 0))).0 t)

-- ---- the three stretches, side by side

abbrev pub stretch : List ℕ → ℕ → ℕ → List ℕ
stretch cells n p = take (p + n - p) (drop p cells)

abbrev pub three : List ℕ → ℕ → ℕ → ℕ → ℕ → List ((ℕ × ℕ) × ℕ)
three cells p q r n = zip (zip (stretch cells n p) (stretch cells n q)) (stretch cells n r)

module _ (cells : List ℕ) (n : ℕ) where
  stretch_long : (p : ℕ) → p + n ≤ length cells → length (stretch cells n p) ≡ n
  stretch_long p h = omega (arith, length-take (p + n - p) (drop p cells), length-drop p cells)

  stretch_at : (p i d : ℕ) → p + n ≤ length cells → i < n → get_or (stretch cells n p) i d ≡ get_or cells (p + i) 0
  stretch_at p i d h l =
      get_or-take (p + n - p) (drop p cells) i d (omega arith) ∙ get_or-drop p cells i d ∙ get_or_default cells (p + i) d 0 (omega arith)

  module _ (p q r : ℕ) (hp : p + n ≤ length cells) (hq : q + n ≤ length cells) (hr : r + n ≤ length cells) where
    pub three_long : length (three cells p q r n) ≡ n
    three_long =
        let both = zip (stretch cells n p) (stretch cells n q) in
        omega (arith, length-zip both (stretch cells n r), length-zip (stretch cells n p) (stretch cells n q), stretch_long p hp, stretch_long q hq, stretch_long r hr)

    pub three_at : (i : ℕ) (t : (ℕ × ℕ) × ℕ) → i < n → t ≡ get_or (three cells p q r n) i t
        → (t.0.0 ≡ get_or cells (p + i) 0) × (t.0.1 ≡ get_or cells (q + i) 0) × (t.1 ≡ get_or cells (r + i) 0)
    three_at i t l e =
        let both = zip (stretch cells n p) (stretch cells n q) in
        let lp = stretch_long p hp in
        let lq = stretch_long q hq in
        let lr = stretch_long r hr in
        let outer = get_or-zip both (stretch cells n r) i t (omega (arith, lp, lq, length-zip (stretch cells n p) (stretch cells n q))) (omega (arith, lr)) in
        let inner = get_or-zip (stretch cells n p) (stretch cells n q) i t.0 (omega (arith, lp)) (omega (arith, lq)) in
        let at : t ≡ ((get_or (stretch cells n p) i t.0.0, get_or (stretch cells n q) i t.0.1), get_or (stretch cells n r) i t.1) =
        e ∙ outer ∙ ap (λ (b : ℕ × ℕ). (b, get_or (stretch cells n r) i t.1)) inner in (
          ap (λ (t : (ℕ × ℕ) × ℕ). t.0.0) at ∙ stretch_at p i t.0.0 hp l,
          ap (λ (t : (ℕ × ℕ) × ℕ). t.0.1) at ∙ stretch_at q i t.0.1 hq l,
          ap (λ (t : (ℕ × ℕ) × ℕ). t.1) at ∙ stretch_at r i t.1 hr l,
        )

-- ---- where the stretches begin, and how far on a neighbour lies in them

module _ (S : Sizes) where
  -- numbers of places add up
  shift : (x y z i j k a b c : ℕ) → a ≡ x + i → b ≡ y + j → c ≡ z + k → number S (place a b c) ≡ number S (place x y z) + number S (place i j k)
  shift x y z i j k a b c ea eb ec =
      let e : b + S.h * c ≡ (y + S.h * z) + (j + S.h * k) = rw (eb, ec) (omega (arith, mul-add S.h z k)) in
      let q = mul-add S.w (y + S.h * z) (j + S.h * k) in
      rw e (omega arith)

  on_z_le : (z : ℕ) → z ≤ 1 → on_z S z ≤ on_z S 1
  on_z_le z h = split (counted S Z)
    where
      split : (t : Bool) → cond t z 0 ≤ cond t 1 0
      split true = h
      split false = omega arith

  pub highest_in : InRange S → Inside S (place 1 1 (on_z S 1))
  highest_in r = record { x_in = omega (arith, r.w_lo); y_in = omega (arith, r.h_lo); z_in = split (counted S Z) refl }
    where
      split : (t : Bool) → counted S Z ≡ t → cond t 1 0 < S.d
      split true e = omega (arith, leb-true 2 S.d e)
      split false e = omega (arith, r.d_lo)

  fits : InRange S → (x y z : ℕ) → x ≤ 1 → y ≤ 1 → z ≤ on_z S 1 → number S (place x y z) + inner S ≤ nodes S
  fits r x y z lx ly lz =
      let a : S.h * z ≤ S.h * on_z S 1 = mul-le-mul_left S.h lz in
      let b : S.w * (y + S.h * z) ≤ S.w * (1 + S.h * on_z S 1) = mul-le-mul_left S.w (omega arith) in
      omega (arith, number_lt S (place 1 1 (on_z S 1)) (highest_in r))

  module _ (o : ℕ) where
    abbrev x : ℕ
    x = bit (runs_down o X)

    abbrev y : ℕ
    y = bit (runs_down o Y)

    abbrev z : ℕ
    z = on_z S (bit (runs_down o Z))

    -- the neighbours ahead of the lowest node; where Z does not count, that on Y stands in
    abbrev pub first_x : ℕ
    first_x = number S (place (1 - x) y z)

    abbrev pub first_y : ℕ
    first_y = number S (place x (1 - y) z)

    abbrev pub first_z : ℕ
    first_z = cond (counted S Z) (number S (place x y (1 - z))) first_y

    deep_z : counted S Z ≡ true → number S (place x y (1 - z)) ≡ first_z
    deep_z e = ap (λ t. cond t (number S (place x y (1 - z))) first_y) (sym e)

    flat_z : counted S Z ≡ false → first_y ≡ first_z
    flat_z e = ap (λ t. cond t (number S (place x y (1 - z))) first_y) (sym e)

    pub all_fit : InRange S → (first_x + inner S ≤ nodes S) × (first_y + inner S ≤ nodes S) × (first_z + inner S ≤ nodes S)
    all_fit r = (
      fits r (1 - x) y z (omega arith) (bit_le (runs_down o Y)) lz,
      on_y,
      split (counted S Z) refl,
    )
      where
        lz : z ≤ on_z S 1
        lz = on_z_le (bit (runs_down o Z)) (bit_le (runs_down o Z))

        on_y : first_y + inner S ≤ nodes S
        on_y = fits r x (1 - y) z (bit_le (runs_down o X)) (omega arith) lz

        split : (t : Bool) → counted S Z ≡ t → cond t (number S (place x y (1 - z))) first_y + inner S ≤ nodes S
        split true e = fits r x y (1 - z) (bit_le (runs_down o X)) (bit_le (runs_down o Y)) (rw e (omega arith))
        split false e = on_y

-- the lower of two neighbours is as far on from 0 as the node is from its own first place, 0 or 1
abbrev low : Bool → ℕ → ℕ → ℕ
low down n k = flip down n k - bit down

module _ (n k : ℕ) (some : 0 < k) (l : k < n) where
  low_at : (down : Bool) → flip down n k ≡ bit down + low down n k
  low_at true = omega arith
  low_at false = omega arith

  low_ahead : (down : Bool) → flip down n (k - 1) ≡ (1 - bit down) + low down n k
  low_ahead true = omega arith
  low_ahead false = omega arith

  low_lt : (down : Bool) → low down n k + 1 < n
  low_lt true = omega arith
  low_lt false = omega arith

-- ---- no node is stuck

module _ (m : Map) (o : ℕ) where
  abbrev S : Sizes
  S = m.sizes

  abbrev none : Place → Bool
  none p = false

  -- a node that the rule marks where no other is marked has a faulty one ahead on every axis that counts
  faulty_ahead : (s : Place) → Inside S s → T (marked m o none (to_go S o s)) → (a : Axis) → T (counted S a)
      → (0 < on s a) × T (faulty m (to_go S o (put a s (on s a - 1))))
  unfolding wall
  faulty_ahead s i t a k =
      let q : Place = to_go S o (put a s (on s a - 1)) in
      let b : T (ltb 0 (on s a) && (faulty m q || false)) = rw (blocks_left m o s i none a) at (((marked_iff m o none (to_go S o s)).0 t).1 a k) in
      let (l, f) = (T-and (ltb 0 (on s a)) (faulty m q || false)).0 b in
      ((T-lt 0 (on s a)).0 l, alone (faulty m q) f)
    where
      alone : (b : Bool) → T (b || false) → T b
      alone true t = tt
      alone false t = t

  module _ (sized : InRange S) (N : Apart m.cells (first_x S o) (first_y S o) (first_z S o) (inner S)) (s : Place) (i : Inside S s)
      (t : T (marked m o none (to_go S o s))) where
    on_x : (0 < s.x) × T (faulty m (to_go S o (place (s.x - 1) s.y s.z)))
    on_x = faulty_ahead s i t X ((T-le 2 S.w).1 sized.w_lo)

    y_ahead : (0 < s.y) × T (faulty m (to_go S o (place s.x (s.y - 1) s.z)))
    y_ahead = faulty_ahead s i t Y ((T-le 2 S.h).1 sized.h_lo)

    x_here : flip (runs_down o X) S.w s.x ≡ bit (runs_down o X) + low (runs_down o X) S.w s.x
    x_here = low_at S.w s.x on_x.0 i.x_in (runs_down o X)

    y_here : flip (runs_down o Y) S.h s.y ≡ bit (runs_down o Y) + low (runs_down o Y) S.h s.y
    y_here = low_at S.h s.y y_ahead.0 i.y_in (runs_down o Y)

    -- how far on in its stretch each of them lies, by how far that is on Z
    abbrev far : ℕ → ℕ
    far k = number S (place (low (runs_down o X) S.w s.x) (low (runs_down o Y) S.h s.y) k)

    abbrev Dead : ℕ → Type 0
    Dead n = T (faulty_cell (get_or m.cells n 0))

    module _ (k : ℕ) (z_here : flip (runs_down o Z) S.d s.z ≡ on_z S (bit (runs_down o Z)) + k) (room : k + on_z S 1 < S.d) where
      far_lt : far k < inner S
      far_lt =
          let p : Place = place (low (runs_down o X) S.w s.x + 1) (low (runs_down o Y) S.h s.y + 1) (k + on_z S 1) in
          let l : Inside S p = record {
            x_in = low_lt S.w s.x on_x.0 i.x_in (runs_down o X);
            y_in = low_lt S.h s.y y_ahead.0 i.y_in (runs_down o Y);
            z_in = room;
          } in
          omega (arith, number_lt S p l, shift S _ _ _ 1 1 (on_z S 1) p.x p.y p.z refl refl refl)

      x_dead : Dead (first_x S o + far k)
      x_dead = subst Dead (shift S _ _ _ _ _ _ _ _ _ (low_ahead S.w s.x on_x.0 i.x_in (runs_down o X)) y_here z_here) on_x.1

      y_dead : Dead (first_y S o + far k)
      y_dead = subst Dead (shift S _ _ _ _ _ _ _ _ _ x_here (low_ahead S.h s.y y_ahead.0 i.y_in (runs_down o Y)) z_here) y_ahead.1

      apart : Dead (first_z S o + far k) → ⊥
      apart = N (far k) far_lt x_dead y_dead

    met : (b : Bool) → counted S Z ≡ b → ⊥
    met true e =
        let (l, f) = faulty_ahead s i t Z ((T-le 2 S.d).1 (leb-true 2 S.d e)) in
        let k : ℕ = low (runs_down o Z) S.d s.z in
        let next : flip (runs_down o Z) S.d (s.z - 1) ≡ (1 - on_z S (bit (runs_down o Z))) + k
        = rw e (low_ahead S.d s.z l i.z_in (runs_down o Z)) in
        let q : number S (to_go S o (place s.x s.y (s.z - 1))) ≡ first_z S o + far k
        = shift S _ _ _ _ _ _ _ _ _ x_here y_here next ∙ ap (λ n. n + far k) (deep_z S o e) in
        apart k (rw e (low_at S.d s.z l i.z_in (runs_down o Z))) (rw e (low_lt S.d s.z l i.z_in (runs_down o Z))) (subst Dead q f)
    met false e =
        let l = leb-false 2 S.d e in
        let z_here : flip (runs_down o Z) S.d s.z ≡ on_z S (bit (runs_down o Z)) + 0 = rw e (edge (runs_down o Z) S.d s.z (omega arith) i.z_in) in
        let room : 0 + on_z S 1 < S.d = rw e (omega (arith, sized.d_lo)) in
        apart 0 z_here room (subst (λ (n : ℕ). Dead (n + far 0)) (flat_z S o e) (y_dead 0 z_here room))
      where
        edge : (down : Bool) (n k : ℕ) → n < 2 → k < n → flip down n k ≡ 0 + 0
        edge true n k h l = omega arith
        edge false n k h l = omega arith

  pub none_stuck : InRange S → Apart m.cells (first_x S o) (first_y S o) (first_z S o) (inner S) → (p : Place) → Inside S p → stuck m o p ≡ false
  none_stuck sized N p i = bool_ext (stuck m o p) false (least m o none closed p i) (λ t. absurd t)
    where
      closed : (q : Place) → Inside S q → T (marked m o none q) → ⊥
      closed q j t =
          let k : Inside S (to_go S o q) = to_go_in S o q j in
          let u : T (marked m o none (to_go S o (to_go S o q))) = rw (to_go_back S o q j) t in
          met sized N (to_go S o q) k u (counted S Z) refl
