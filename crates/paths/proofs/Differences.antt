-- Preferred directions lower a difference's size, and the hops by one; no difference is larger than 15, and no path than 45 hops.
-- A preferred direction leads along an axis on which the end lies that way (`preferred_along`), and all else follows. Assumes nothing.
use mathlib.Core.Path.{◌≡◌, refl, sym, ap, ◌∙◌, subst}
use mathlib.Core.Logic.{◌↔◌, ◌⊎◌, inl, inr}
use mathlib.Core.Bool.{Bool, true, false, not, ◌||◌, or-false}
use Prim.Native.Nat.{ℕ, zero, suc, ◌+◌, ◌-◌, ◌<◌, ◌≤◌}
use native.Mathlib.Omega.{arith}
use lib.IntN.{ℤ, pos, negsuc, nat_abs, sub_ℕ, ◌-ℤ◌, +ℤ_idr}
use lib.Dec.{T, ltb, eqb, ltb→lt, lt→ltb, nltb→le}
use borrow.Author.Tests.{lt-ltb, le-ltb, ltb-true, ltb-false, ne_eqb, eq-eqb}
use Rattle.mesh.specs.Mesh.{Axis, X, Y, Z, span, on, place, InRange, Inside}
use Rattle.mesh.specs.Steps.{step_of, next, along}
use Rattle.mesh.proofs.Tests.{T-eq, T-every, cond_true}
use Rattle.mesh.proofs.Steps.{dir_of, dir_lt, dir_led, led, next_along, room, go, put}
use Rattle.mesh.specs.declared.Sizes.{Sizes}
use Rattle.mesh.specs.declared.Place.{Place}
use Rattle.paths.specs.Differences.{difference, size, wanted, is_way, prefers, preferred, hops, same}
use Rattle.std.specs.Prelude.{Some, None}

-- a step leads to one place
pub at_eq : {p q : Place} → Some p ≡ Some q → p ≡ q
at_eq h = cc

-- ---- one axis

-- the end, at coordinate b, lies up or down from c
abbrev pub lies : Bool → ℕ → ℕ → Bool
lies false c b = ltb c b
lies true c b = ltb b c

-- the three signs of a difference
pub data Sign (c b : ℕ) : Type 0 where
  level : c ≡ b → sub_ℕ b c ≡ pos 0 → Sign c b
  above : (n : ℕ) → b ≡ c + suc n → sub_ℕ b c ≡ pos (suc n) → Sign c b
  below : (n : ℕ) → c ≡ b + suc n → sub_ℕ b c ≡ negsuc n → Sign c b

pub sign : (c b : ℕ) → Sign c b
sign c b = split (ltb b c) refl
  where
    up : (k : ℕ) → b - c ≡ k → c ≤ b → sub_ℕ b c ≡ pos k → Sign c b
    up zero e l h = level (omega arith) h
    up (suc n) e l h = above n (omega arith) h

    split : (t : Bool) → ltb b c ≡ t → Sign c b
    split true e = below (c - suc b) (omega (arith, ltb-true b c e)) (rw e)
    split false e = up (b - c) refl (ltb-false b c e) (rw e)

-- the size of a difference, by subtractions that stop at 0
pub size_is : (c b : ℕ) → nat_abs (sub_ℕ b c) ≡ (b - c) + (c - b)
size_is c b = split (sign c b)
  where
    split : Sign c b → nat_abs (sub_ℕ b c) ≡ (b - c) + (c - b)
    split (level e h) = rw h (omega arith)
    split (above n e h) = rw h (omega arith)
    split (below n e h) = rw h (omega arith)

module _ (up c b : ℕ) where
  way_up : is_way (wanted up (sub_ℕ b c)) up ≡ ltb c b
  way_up = split (sign c b)
    where
      split : Sign c b → is_way (wanted up (sub_ℕ b c)) up ≡ ltb c b
      split (level e h) = rw (h, le-ltb c b (omega arith))
      split (above n e h) = rw (h, lt-ltb c b (omega arith)) (eq-eqb up up refl)
      split (below n e h) = rw (h, le-ltb c b (omega arith)) (ne_eqb up (up + 1) (λ f. omega arith))

  way_down : is_way (wanted up (sub_ℕ b c)) (up + 1) ≡ ltb b c
  way_down = split (sign c b)
    where
      split : Sign c b → is_way (wanted up (sub_ℕ b c)) (up + 1) ≡ ltb b c
      split (level e h) = rw (h, le-ltb b c (omega arith))
      split (above n e h) = rw (h, le-ltb b c (omega arith)) (ne_eqb (up + 1) up (λ f. omega arith))
      split (below n e h) = rw (h, lt-ltb b c (omega arith)) (eq-eqb (up + 1) (up + 1) refl)

  way_other : (j : ℕ) → eqb j up ≡ false → eqb j (up + 1) ≡ false → is_way (wanted up (sub_ℕ b c)) j ≡ false
  way_other j n1 n2 = split (sub_ℕ b c)
    where
      split : (d : ℤ) → is_way (wanted up d) j ≡ false
      split (pos zero) = refl
      split (pos (suc n)) = n1
      split (negsuc n) = n2

-- ---- preferred directions

or_1 : {t u v s : Bool} → t ≡ s → u ≡ false → v ≡ false → t || u || v ≡ s
or_1 {t} {u} {v} {s} a b c = rw (a, b, c) (or-false (s || false) ∙ or-false s)

or_2 : {t u v s : Bool} → t ≡ false → u ≡ s → v ≡ false → t || u || v ≡ s
or_2 {t} {u} {v} {s} a b c = rw (a, b, c) (or-false s)

or_3 : {t u v s : Bool} → t ≡ false → u ≡ false → v ≡ s → t || u || v ≡ s
or_3 a b c = rw (a, b, c)

up_lt : (a : Axis) → along a false + 1 < 6
up_lt X = omega arith
up_lt Y = omega arith
up_lt Z = omega arith

module _ (p e : Place) where
  other : (a : Axis) (j : ℕ) → eqb j (along a false) ≡ false → eqb j (along a false + 1) ≡ false → prefers p e j a ≡ false
  other a j = way_other (along a false) (on p a) (on e a) j

  -- the direction up or down an axis is preferred exactly if the end lies that way on it
  pub preferred_along : (a : Axis) (down : Bool) → preferred p e (along a down) ≡ lies down (on p a) (on e a)
  unfolding preferred
  preferred_along X false = or_1 (way_up 0 p.x e.x) (other Y 0 refl refl) (other Z 0 refl refl)
  preferred_along X true = or_1 (way_down 0 p.x e.x) (other Y 1 refl refl) (other Z 1 refl refl)
  preferred_along Y false = or_2 (other X 2 refl refl) (way_up 2 p.y e.y) (other Z 2 refl refl)
  preferred_along Y true = or_2 (other X 3 refl refl) (way_down 2 p.y e.y) (other Z 3 refl refl)
  preferred_along Z false = or_3 (other X 4 refl refl) (other Y 4 refl refl) (way_up 4 p.z e.z)
  preferred_along Z true = or_3 (other X 5 refl refl) (other Y 5 refl refl) (way_down 4 p.z e.z)

  -- there are six directions
  preferred_lt : (j : ℕ) → T (preferred p e j) → j < 6
  unfolding preferred
  preferred_lt j t = split (ltb j 6) refl
    where
      past : (a : Axis) → 6 ≤ j → prefers p e j a ≡ false
      past a h =
          let k : along a false < 6 = dir_lt a false in
          let l : along a false + 1 < 6 = up_lt a in
          other a j (ne_eqb j (along a false) (λ f. omega arith)) (ne_eqb j (along a false + 1) (λ f. omega arith))

      split : (b : Bool) → ltb j 6 ≡ b → j < 6
      split true h = ltb-true j 6 h
      split false h =
          let l : 6 ≤ j = ltb-false j 6 h in
          absurd (subst (λ (b : Bool). T b) (or_3 {t = prefers p e j X} (past X l) (past Y l) (past Z l)) t)

  -- a preferred direction, read
  pub preferred_read : (j : ℕ) → T (preferred p e j) → (a : Axis) × (down : Bool) × (j ≡ along a down) × T (lies down (on p a) (on e a))
  preferred_read j t =
      let (a, down, k) = dir_of j (preferred_lt j t) in
      (a, down, k, subst (λ (b : Bool). T b) (preferred_along a down) (rw k at t))

-- "a zero difference offers none": at the end itself no direction is preferred
pub end_prefers_none : (e : Place) (j : ℕ) → T (preferred e e j) → ⊥
end_prefers_none e j t = let (a, down, k, l) = preferred_read e e j t in split (on e a) down l
  where
    split : (c : ℕ) (down : Bool) → T (lies down c c) → ⊥
    split c true l = omega (arith, ltb→lt c c l)
    split c false l = omega (arith, ltb→lt c c l)

-- ---- sizes and hops

pub hops_is : (p e : Place) → hops p e ≡ ((e.x - p.x) + (p.x - e.x)) + ((e.y - p.y) + (p.y - e.y)) + ((e.z - p.z) + (p.z - e.z))
unfolding hops
hops_is p e = rw (size_is p.x e.x, size_is p.y e.y, size_is p.z e.z)

pub place_eq : (p q : Place) → p.x ≡ q.x → p.y ≡ q.y → p.z ≡ q.z → p ≡ q
place_eq p q ex ey ez i = place (ex i) (ey i) (ez i)

pub same_iff : (p q : Place) → T (same p q) ↔ (p ≡ q)
same_iff p q = (
  λ t.
      let h : (a : Axis) → on p a ≡ on q a = simp T-eq at ((T-every (λ a. eqb (on p a) (on q a))).0 t) in
      place_eq p q (h X) (h Y) (h Z),
  λ e. (T-every (λ a. eqb (on p a) (on q a))).1 λ a. (T-eq (on p a) (on q a)).1 (ap (λ (r : Place). on r a) e),
)

pub hops_zero : (p q : Place) → (hops p q ≡ 0) ↔ (p ≡ q)
hops_zero p q = (
  λ h. let k = sym (hops_is p q) ∙ h in place_eq p q (omega arith) (omega arith) (omega arith),
  λ e. hops_is p q ∙ rw e (omega arith),
)

-- "The signed difference along each axis runs from −15 to 15."
pub size_le : (S : Sizes) (p e : Place) → InRange S → Inside S p → Inside S e → (a : Axis) → size p e a ≤ 15
size_le S p e r i k X = rw (size_is p.x e.x) (omega arith)
size_le S p e r i k Y = rw (size_is p.y e.y) (omega arith)
size_le S p e r i k Z = rw (size_is p.z e.z) (omega arith)

-- "Its hops are .. at most 45."
pub hops_le : (S : Sizes) (p e : Place) → InRange S → Inside S p → Inside S e → hops p e ≤ 45
unfolding hops
hops_le S p e r i k = omega (arith, size_le S p e r i k X, size_le S p e r i k Y, size_le S p e r i k Z)

-- ---- steps

pub on_put : (a : Axis) (t : Place) (i : ℕ) → on (put a t i) a ≡ i
on_put X t i = refl
on_put Y t i = refl
on_put Z t i = refl

size_nearer : (down : Bool) (c b n : ℕ) → T (room down c n) → T (lies down c b) → nat_abs (sub_ℕ b c) ≡ suc (nat_abs (sub_ℕ b (go down c)))
size_nearer true c b n r l = rw (size_is c b, size_is (c - 1) b) (omega (arith, ltb→lt))
size_nearer false c b n r l = rw (size_is c b, size_is (c + 1) b) (omega (arith, ltb→lt))

size_farther : (down : Bool) (c b n : ℕ) → T (room down c n) → T (not (lies down c b)) → nat_abs (sub_ℕ b (go down c)) ≡ suc (nat_abs (sub_ℕ b c))
size_farther true c b n r l = rw (size_is c b, size_is (c - 1) b) (omega (arith, ltb→lt, nltb→le))
size_farther false c b n r l = rw (size_is c b, size_is (c + 1) b) (omega (arith, ltb→lt, nltb→le))

hops_nearer : (a : Axis) (p e : Place) (c : ℕ) → size p e a ≡ suc (nat_abs (sub_ℕ (on e a) c)) → hops p e ≡ suc (hops (put a p c) e)
unfolding hops
hops_nearer X p e c h = omega arith
hops_nearer Y p e c h = omega arith
hops_nearer Z p e c h = omega arith

hops_farther : (a : Axis) (p e : Place) (c : ℕ) → nat_abs (sub_ℕ (on e a) c) ≡ suc (size p e a) → hops (put a p c) e ≡ suc (hops p e)
unfolding hops
hops_farther X p e c h = omega arith
hops_farther Y p e c h = omega arith
hops_farther Z p e c h = omega arith

module _ (S : Sizes) (p q e : Place) (i : Inside S p) (j : ℕ) (h : next S p j ≡ Some q) where
  -- a preferred step lowers the hops by one, every other step raises them by one
  pub preferred_lowers : T (preferred p e j) → hops p e ≡ suc (hops q e)
  preferred_lowers t =
      let (a, down, k, l) = preferred_read p e j t in
      let (r, f) = led S p i a down q (rw k at h) in
      rw f (hops_nearer a p e (go down (on p a)) (size_nearer down (on p a) (on e a) (span S a) r l))

  pub other_raises : T (not (preferred p e j)) → hops q e ≡ suc (hops p e)
  other_raises t =
      let (a, down, k) = dir_of j (dir_led S p q j h) in
      let (r, f) = led S p i a down q (rw k at h) in
      let l : T (not (lies down (on p a) (on e a))) = rw (k, preferred_along p e a down) at t in
      rw f (hops_farther a p e (go down (on p a)) (size_farther down (on p a) (on e a) (span S a) r l))

-- a preferred step never leaves the mesh
pub preferred_next : (S : Sizes) (p e : Place) → Inside S p → Inside S e → (j : ℕ) → T (preferred p e j) → (q : Place) × (next S p j ≡ Some q)
preferred_next S p e i k j t =
    let (a, down, f, l) = preferred_read p e j t in
    let q : Place = put a p (go down (on p a)) in
    (q, ap (next S p) f ∙ next_along S p i a down ∙ cond_true (room down (on p a) (span S a)) (Some q) None (fits a down l))
  where
    fits : (a : Axis) (down : Bool) → T (lies down (on p a) (on e a)) → T (room down (on p a) (span S a))
    fits X true l = omega (arith, ltb→lt, lt→ltb)
    fits X false l = omega (arith, ltb→lt, lt→ltb)
    fits Y true l = omega (arith, ltb→lt, lt→ltb)
    fits Y false l = omega (arith, ltb→lt, lt→ltb)
    fits Z true l = omega (arith, ltb→lt, lt→ltb)
    fits Z false l = omega (arith, ltb→lt, lt→ltb)

-- ---- the table of steps

-- the step of direction j on an axis, by the table
abbrev pub step_by : ℕ → Axis → ℤ
step_by j X = step_of j 0
step_by j Y = step_of j 1
step_by j Z = step_of j 2

abbrev unit : Bool → ℤ
unit false = pos 1
unit true = negsuc 0

-- a direction steps by one on its own axis, and by nothing on every other
stepped : (j : ℕ) (a : Axis) → (step_by j a ≡ pos 0) ⊎ ((down : Bool) × (j ≡ along a down) × (step_by j a ≡ unit down))
stepped zero = elim [ X ↦ inr (false, refl, refl) | Y ↦ inl refl | Z ↦ inl refl ]
stepped (suc zero) = elim [ X ↦ inr (true, refl, refl) | Y ↦ inl refl | Z ↦ inl refl ]
stepped (suc (suc zero)) = elim [ X ↦ inl refl | Y ↦ inr (false, refl, refl) | Z ↦ inl refl ]
stepped (suc (suc (suc zero))) = elim [ X ↦ inl refl | Y ↦ inr (true, refl, refl) | Z ↦ inl refl ]
stepped (suc (suc (suc (suc zero)))) = elim [ X ↦ inl refl | Y ↦ inl refl | Z ↦ inr (false, refl, refl) ]
stepped (suc (suc (suc (suc (suc zero))))) = elim [ X ↦ inl refl | Y ↦ inl refl | Z ↦ inr (true, refl, refl) ]
stepped (suc (suc (suc (suc (suc (suc j)))))) = elim [ X ↦ inl refl | Y ↦ inl refl | Z ↦ inl refl ]

step_own : (a : Axis) (down : Bool) → step_by (along a down) a ≡ unit down
step_own X = elim [ true ↦ refl | false ↦ refl ]
step_own Y = elim [ true ↦ refl | false ↦ refl ]
step_own Z = elim [ true ↦ refl | false ↦ refl ]

lowers_on : (down : Bool) (c b : ℕ) → T (lies down c b) ↔ (nat_abs (sub_ℕ b c -ℤ unit down) < nat_abs (sub_ℕ b c))
lowers_on down c b = split down (sign c b)
  where
    split : (down : Bool) → Sign c b → T (lies down c b) ↔ (nat_abs (sub_ℕ b c -ℤ unit down) < nat_abs (sub_ℕ b c))
    split true (level e h) = rw h (omega (arith, ltb→lt, lt→ltb))
    split true (above n e h) = rw h (omega (arith, ltb→lt, lt→ltb))
    split true (below n e h) = rw h (omega (arith, ltb→lt, lt→ltb, size_is (suc n) 1))
    split false (level e h) = rw h (omega (arith, ltb→lt, lt→ltb))
    split false (above n e h) = rw h (omega (arith, ltb→lt, lt→ltb, size_is 1 (suc n)))
    split false (below n e h) = rw h (omega (arith, ltb→lt, lt→ltb))

-- "A preferred direction lowers a difference's size": exactly the preferred ones do, by what the table of steps takes from it
pub lowers : (p e : Place) (j : ℕ) → T (preferred p e j) ↔ ((a : Axis) × (nat_abs (difference p e a -ℤ step_by j a) < size p e a))
lowers p e j = (λ t. let (a, down, k, l) = preferred_read p e j t in (a, there a down k l), λ h. back h.0 h.1 (stepped j h.0))
  where
    there : (a : Axis) (down : Bool) → j ≡ along a down → T (lies down (on p a) (on e a)) → nat_abs (difference p e a -ℤ step_by j a) < size p e a
    there a down k l = rw (k, step_own a down) ((lowers_on down (on p a) (on e a)).0 l)

    back : (a : Axis) → nat_abs (difference p e a -ℤ step_by j a) < size p e a
        → (step_by j a ≡ pos 0) ⊎ ((down : Bool) × (j ≡ along a down) × (step_by j a ≡ unit down)) → T (preferred p e j)
    back a l (inl z) =
        let f : difference p e a -ℤ step_by j a ≡ difference p e a = ap (λ (s : ℤ). difference p e a -ℤ s) z ∙ +ℤ_idr (difference p e a) in
        absurd (omega (arith, ap nat_abs f))
    back a l (inr (down, k, s)) = rw (k, preferred_along p e a down) ((lowers_on down (on p a) (on e a)).1 (rw s at l))
