-- A step moves one coordinate by one: the table of steps read axis by axis. Opposite directions cancel. Assumes nothing.
use mathlib.Core.Path.{◌≡◌, refl, sym, ap, ◌∙◌}
use mathlib.Core.Bool.{Bool, true, false, cond, not}
use mathlib.Core.List.{List, []}
use Prim.Native.Nat.{ℕ, zero, suc, ◌+◌, ◌-◌, ◌<◌, ◌≤◌}
use native.Mathlib.Nat.{add-zero}
use native.Mathlib.Omega.{arith}
use lib.ListN.{get_or, replicate, get_or-replicate}
use lib.IntN.{ℤ, pos, negsuc, ◌+ℤ◌}
use lib.Dec.{T, ltb, eqb, ltb→lt, lt→ltb}
use borrow.Author.Tests.{lt-ltb, le-ltb, ltb-true}
use Rattle.mesh.specs.Tools.{all, table}
use Rattle.mesh.specs.Mesh.{Axis, X, Y, Z, span, on, every, place, Inside}
use Rattle.mesh.specs.Steps.{triple, step_of, opposite, moved, together, next, along, ahead, behind, reversed}
use Rattle.mesh.proofs.Tests.{T-all, T-every, T-eq, cond_true}
use Rattle.mesh.proofs.Tables.{get_d_table}
use Rattle.mesh.specs.declared.Sizes.{Sizes}
use Rattle.mesh.specs.declared.Place.{Place}
use Rattle.std.specs.Prelude.{Some, None, Option}

-- ---- the table: opposite directions cancel, computed once over all of it

abbrev pub sums : ℕ → List ℤ
sums j = triple (step_of j 0 +ℤ step_of (opposite j) 0) (step_of j 1 +ℤ step_of (opposite j) 1) (step_of j 2 +ℤ step_of (opposite j) 2)

abbrev none : List ℤ
none = triple (pos 0) (pos 0) (pos 0)

all_cancel : table sums 6 ≡ replicate 6 none
unfolding table
all_cancel = refl

pub cancels : (j : ℕ) → j < 6 → sums j ≡ triple (pos 0) (pos 0) (pos 0)
cancels j h = sym (get_d_table sums 6 j [] h) ∙ ap (λ (l : List (List ℤ)). get_or l j []) all_cancel ∙ get_or-replicate 6 j none [] h

-- every direction goes up or down an axis
pub dir_lt : (a : Axis) (down : Bool) → along a down < 6
dir_lt X = elim [ true ↦ omega arith | false ↦ omega arith ]
dir_lt Y = elim [ true ↦ omega arith | false ↦ omega arith ]
dir_lt Z = elim [ true ↦ omega arith | false ↦ omega arith ]

pub dir_of : (j : ℕ) → j < 6 → (a : Axis) × (down : Bool) × (j ≡ along a down)
dir_of zero h = (X, false, refl)
dir_of (suc zero) h = (X, true, refl)
dir_of (suc (suc zero)) h = (Y, false, refl)
dir_of (suc (suc (suc zero))) h = (Y, true, refl)
dir_of (suc (suc (suc (suc zero)))) h = (Z, false, refl)
dir_of (suc (suc (suc (suc (suc zero))))) h = (Z, true, refl)
dir_of (suc (suc (suc (suc (suc (suc j)))))) h = absurd (omega arith)

pub opposite_along : (a : Axis) (down : Bool) → opposite (along a down) ≡ along a (not down)
opposite_along X = elim [ true ↦ refl | false ↦ refl ]
opposite_along Y = elim [ true ↦ refl | false ↦ refl ]
opposite_along Z = elim [ true ↦ refl | false ↦ refl ]

-- what is ahead in the reversed orientation is behind, computed over the eight orientations
abbrev turned : ℕ → Bool
turned o = every λ a. eqb (ahead (reversed o) a) (behind o a)

all_turned : T (all 8 turned)
unfolding all
all_turned = tt

pub reversed_behind : (o : ℕ) → o ≤ 7 → (a : Axis) → ahead (reversed o) a ≡ behind o a
reversed_behind o h a = (T-eq _ _).0 ((T-every (λ a. eqb (ahead (reversed o) a) (behind o a))).0 ((T-all 8 turned).0 all_turned o (omega arith)) a)

-- ---- a step along an axis

-- is there room for a step, the coordinate that it leads to, and a place with that coordinate
abbrev pub room : Bool → ℕ → ℕ → Bool
room false c n = ltb (c + 1) n
room true c n = ltb 0 c

abbrev pub go : Bool → ℕ → ℕ
go false c = c + 1
go true c = c - 1

abbrev pub put : Axis → Place → ℕ → Place
put X p c = place c p.y p.z
put Y p c = place p.x c p.z
put Z p c = place p.x p.y c

abbrev pub step_on : Sizes → Place → Axis → Bool → Option Place
step_on S p a down = cond (room down (on p a) (span S a)) (Some (put a p (go down (on p a)))) None

stay : (c n : ℕ) → c < n → moved c (pos 0) n ≡ Some c
stay c n h = rw (add-zero, lt-ltb c n h)

back : (c n : ℕ) → c < n → moved c (negsuc 0) n ≡ cond (ltb 0 c) (Some (c - 1)) None
back zero n h = refl
back (suc c) n h = rw (le-ltb (suc c) 1 (omega arith), lt-ltb 0 (suc c) (omega arith), lt-ltb (suc c - 1) n (omega arith))

cond_x : (b : Bool) (x y z : ℕ) → together (cond b (Some x) None) (Some y) (Some z) ≡ cond b (Some (place x y z)) None
cond_x true x y z = refl
cond_x false x y z = refl

cond_y : (b : Bool) (x y z : ℕ) → together (Some x) (cond b (Some y) None) (Some z) ≡ cond b (Some (place x y z)) None
cond_y true x y z = refl
cond_y false x y z = refl

cond_z : (b : Bool) (x y z : ℕ) → together (Some x) (Some y) (cond b (Some z) None) ≡ cond b (Some (place x y z)) None
cond_z true x y z = refl
cond_z false x y z = refl

module _ (S : Sizes) (p : Place) (i : Inside S p) where
  stay_x : moved p.x (pos 0) S.w ≡ Some p.x
  stay_x = stay p.x S.w i.x_in

  stay_y : moved p.y (pos 0) S.h ≡ Some p.y
  stay_y = stay p.y S.h i.y_in

  stay_z : moved p.z (pos 0) S.d ≡ Some p.z
  stay_z = stay p.z S.d i.z_in

  -- the direction's own axis moves
  pub next_x : (down : Bool) → together (moved p.x (step_of (along X down) 0) S.w) (Some p.y) (Some p.z) ≡ next S p (along X down)
  unfolding next
  next_x true = rw (stay_y, stay_z)
  next_x false = rw (stay_y, stay_z)

  pub next_y : (down : Bool) → together (Some p.x) (moved p.y (step_of (along Y down) 1) S.h) (Some p.z) ≡ next S p (along Y down)
  unfolding next
  next_y true = rw (stay_x, stay_z)
  next_y false = rw (stay_x, stay_z)

  pub next_z : (down : Bool) → together (Some p.x) (Some p.y) (moved p.z (step_of (along Z down) 2) S.d) ≡ next S p (along Z down)
  unfolding next
  next_z true = rw (stay_x, stay_y)
  next_z false = rw (stay_x, stay_y)

  pub next_along : (a : Axis) (down : Bool) → next S p (along a down) ≡ step_on S p a down
  unfolding next
  next_along X false = rw (stay_y, stay_z) (cond_x (ltb (p.x + 1) S.w) (p.x + 1) p.y p.z)
  next_along X true = rw (back p.x S.w i.x_in, stay_y, stay_z) (cond_x (ltb 0 p.x) (p.x - 1) p.y p.z)
  next_along Y false = rw (stay_x, stay_z) (cond_y (ltb (p.y + 1) S.h) p.x (p.y + 1) p.z)
  next_along Y true = rw (stay_x, back p.y S.h i.y_in, stay_z) (cond_y (ltb 0 p.y) p.x (p.y - 1) p.z)
  next_along Z false = rw (stay_x, stay_y) (cond_z (ltb (p.z + 1) S.d) p.x p.y (p.z + 1))
  next_along Z true = rw (stay_x, stay_y, back p.z S.d i.z_in) (cond_z (ltb 0 p.z) p.x p.y (p.z - 1))

  -- where a step leads
  pub led : (a : Axis) (down : Bool) (q : Place) → next S p (along a down) ≡ Some q → T (room down (on p a) (span S a)) × (q ≡ put a p (go down (on p a)))
  led a down q e = split (room down (on p a) (span S a)) (sym (next_along a down) ∙ e)
    where
      split : (t : Bool) → cond t (Some (put a p (go down (on p a)))) None ≡ Some q → T t × (q ≡ put a p (go down (on p a)))
      split true h = (tt, (cc))
      split false h = let z : ◌≡◌ {A = ℕ} 0 1 = cc in absurd (omega arith)

  pub inside_on : (a : Axis) → on p a < span S a
  inside_on X = i.x_in
  inside_on Y = i.y_in
  inside_on Z = i.z_in

  pub put_in : (a : Axis) (c : ℕ) → c < span S a → Inside S (put a p c)
  put_in X c h = record { x_in = h; y_in = i.y_in; z_in = i.z_in }
  put_in Y c h = record { x_in = i.x_in; y_in = h; z_in = i.z_in }
  put_in Z c h = record { x_in = i.x_in; y_in = i.y_in; z_in = h }

-- the direction is one of the six where a step leads somewhere
pub dir_led : (S : Sizes) (p q : Place) (j : ℕ) → next S p j ≡ Some q → j < 6
unfolding next
dir_led S p q j = split (ltb j 6) refl
  where
    split : (t : Bool) → ltb j 6 ≡ t → cond t (together (moved p.x (step_of j 0) S.w) (moved p.y (step_of j 1) S.h) (moved p.z (step_of j 2) S.d)) None ≡ Some q → j < 6
    split true e h = ltb-true j 6 e
    split false e h = let z : ◌≡◌ {A = ℕ} 0 1 = cc in absurd (omega arith)

module _ (S : Sizes) (p q : Place) (i : Inside S p) where
  -- a step stays in the mesh
  pub next_in : (j : ℕ) → next S p j ≡ Some q → Inside S q
  next_in j e =
      let (a, down, k) = dir_of j (dir_led S p q j e) in
      let (t, f) = led S p i a down q (rw k at e) in
      rw f (put_in S p i a (go down (on p a)) (go_lt down (on p a) (span S a) t (inside_on S p i a)))
    where
      go_lt : (down : Bool) (c n : ℕ) → T (room down c n) → c < n → go down c < n
      go_lt true c n t l = omega arith
      go_lt false c n t l = ltb→lt (c + 1) n t

  returns_along : (a : Axis) (down : Bool) → next S p (along a down) ≡ Some q → next S q (along a (not down)) ≡ Some p
  returns_along a down e =
      let (t, f) = led S p i a down q e in
      rw (next_along S q (next_in (along a down) e) a (not down), f) (back_again a down t)
    where
      on_put : (a : Axis) (c : ℕ) → on (put a p c) a ≡ c
      on_put X c = refl
      on_put Y c = refl
      on_put Z c = refl

      put_put : (a : Axis) (c : ℕ) → put a (put a p c) (on p a) ≡ p
      put_put X c = refl
      put_put Y c = refl
      put_put Z c = refl

      go_back : (down : Bool) (c n : ℕ) → T (room down c n) → c < n → T (room (not down) (go down c) n) × (go (not down) (go down c) ≡ c)
      go_back true c n t l = let h = ltb→lt 0 c t in (lt→ltb (c - 1 + 1) n (omega arith), omega arith)
      go_back false c n t l = (lt→ltb 0 (c + 1) (omega arith), omega arith)

      back_again : (a : Axis) (down : Bool) → T (room down (on p a) (span S a)) → step_on S (put a p (go down (on p a))) a (not down) ≡ Some p
      back_again a down t =
          let (r, g) = go_back down (on p a) (span S a) t (inside_on S p i a) in
          rw (on_put a (go down (on p a)), g, put_put a (go down (on p a))) (cond_true (room (not down) (go down (on p a)) (span S a)) (Some p) None r)

  -- a step and the opposite step return
  pub returns : (j : ℕ) → next S p j ≡ Some q → next S q (opposite j) ≡ Some p
  returns j e =
      let (a, down, k) = dir_of j (dir_led S p q j e) in
      rw (k, opposite_along a down) (returns_along a down (rw k at e))

-- ---- two directions do not lead to one neighbour

moves : (down : Bool) (c n : ℕ) → T (room down c n) → go down c ≡ c → ⊥
moves true c n t e = let h = ltb→lt 0 c t in omega arith
moves false c n t e = omega arith

same_way : (a b : Bool) (c n : ℕ) → T (room a c n) → T (room b c n) → go a c ≡ go b c → a ≡ b
same_way true true c n t u e = refl
same_way false false c n t u e = refl
same_way true false c n t u e = absurd (omega arith)
same_way false true c n t u e = absurd (omega arith)

-- two moves of one place that agree are on one axis, if the first moves at all; and they agree on it
same_axis : (a b : Axis) (p : Place) (c d : ℕ) → (c ≡ on p a → ⊥) → put a p c ≡ put b p d → a ≡ b
same_axis X X p c d n e = refl
same_axis X Y p c d n e = absurd (n (ap (λ (q : Place). q.x) e))
same_axis X Z p c d n e = absurd (n (ap (λ (q : Place). q.x) e))
same_axis Y X p c d n e = absurd (n (ap (λ (q : Place). q.y) e))
same_axis Y Y p c d n e = refl
same_axis Y Z p c d n e = absurd (n (ap (λ (q : Place). q.y) e))
same_axis Z X p c d n e = absurd (n (ap (λ (q : Place). q.z) e))
same_axis Z Y p c d n e = absurd (n (ap (λ (q : Place). q.z) e))
same_axis Z Z p c d n e = refl

on_put : (a : Axis) (p : Place) (c : ℕ) → on (put a p c) a ≡ c
on_put X p c = refl
on_put Y p c = refl
on_put Z p c = refl

same_along : (S : Sizes) (p r : Place) → Inside S p → (a b : Axis) (c d : Bool) → a ≡ b → next S p (along a c) ≡ Some r → next S p (along b d) ≡ Some r
    → along a c ≡ along b d
same_along S p r i a b c d f h k =
    let (t, q) = led S p i a c r h in
    let (u, w) = led S p i a d r (rw (← f) at k) in
    let e : go c (on p a) ≡ go d (on p a) = sym (on_put a p (go c (on p a))) ∙ ap (λ (q : Place). on q a) (sym q ∙ w) ∙ on_put a p (go d (on p a)) in
    rw (f, same_way c d (on p a) (span S a) t u e)

pub next_only : (S : Sizes) (p r : Place) → Inside S p → (j k : ℕ) → next S p j ≡ Some r → next S p k ≡ Some r → j ≡ k
next_only S p r i j k h g =
    let (a, c, f) = dir_of j (dir_led S p r j h) in
    let (b, d, f') = dir_of k (dir_led S p r k g) in
    let h' : next S p (along a c) ≡ Some r = rw (← f) h in
    let g' : next S p (along b d) ≡ Some r = rw (← f') g in
    let (t, q) = led S p i a c r h' in
    let (u, w) = led S p i b d r g' in
    let z = same_axis a b p (go c (on p a)) (go d (on p b)) (moves c (on p a) (span S a) t) (sym q ∙ w) in
    f ∙ same_along S p r i a b c d z h' g' ∙ sym f'
