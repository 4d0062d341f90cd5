-- Steps left: a step ahead takes one of them away, in every orientation alike. Assumes nothing.
use mathlib.Core.Path.{◌≡◌, refl, ◌∙◌}
use mathlib.Core.Bool.{Bool, true, false, cond}
use Prim.Native.Nat.{ℕ, zero, suc, ◌+◌, ◌-◌, ◌<◌}
use native.Mathlib.Omega.{arith}
use lib.Dec.{T, ltb, ltb→lt}
use borrow.Author.Tests.{lt-ltb, le-ltb}
use Rattle.mesh.specs.Mesh.{Axis, X, Y, Z, span, on, Inside}
use Rattle.mesh.specs.Steps.{next, ahead, runs_down}
use Rattle.rules.specs.Marks.{flip, to_go}
use Rattle.mesh.proofs.Steps.{room, go, put, next_along, led}
use Rattle.mesh.specs.declared.Sizes.{Sizes}
use Rattle.mesh.specs.declared.Place.{Place}
use Rattle.std.specs.Prelude.{Some, None}

pub flip_lt : (down : Bool) (n c : ℕ) → c < n → flip down n c < n
flip_lt true n c h = h
flip_lt false n c h = omega arith

pub flip_flip : (down : Bool) (n c : ℕ) → c < n → flip down n (flip down n c) ≡ c
flip_flip true n c h = refl
flip_flip false n c h = omega arith

-- a step ahead from where c steps are left: there is room for it if one is left, and it takes one away
step_flip : (down : Bool) (n c : ℕ) (f : ℕ → Place) → c < n
    → cond (room down (flip down n c) n) (Some (f (go down (flip down n c)))) None ≡ cond (ltb 0 c) (Some (f (flip down n (c - 1)))) None
step_flip true n c f h = refl
step_flip false n zero f h = rw (le-ltb (n - 1 - 0 + 1) n (omega arith))
step_flip false n (suc c) f h =
    let e : n - 1 - suc c + 1 ≡ n - 1 - (suc c - 1) = omega arith in
    rw (lt-ltb (n - 1 - suc c + 1) n (omega arith), lt-ltb 0 (suc c) (omega arith), e)

fall : (down : Bool) (n c : ℕ) → T (room down c n) → c < n → flip down n (go down c) < flip down n c
fall true n c t h = omega (arith, ltb→lt 0 c t)
fall false n c t h = omega (arith, ltb→lt (c + 1) n t)

-- how many steps are left in all
abbrev pub total : Place → ℕ
total s = s.x + s.y + s.z

abbrev pub left : Sizes → ℕ → Place → ℕ
left S o p = total (to_go S o p)

module _ (S : Sizes) (o : ℕ) where
  pub to_go_in : (s : Place) → Inside S s → Inside S (to_go S o s)
  to_go_in s i = record {
    x_in = flip_lt (runs_down o X) S.w s.x i.x_in;
    y_in = flip_lt (runs_down o Y) S.h s.y i.y_in;
    z_in = flip_lt (runs_down o Z) S.d s.z i.z_in;
  }

  -- the place with as many steps left as are left at p is p
  pub to_go_back : (p : Place) → Inside S p → to_go S o (to_go S o p) ≡ p
  to_go_back p i = rw (
    flip_flip (runs_down o X) S.w p.x i.x_in,
    flip_flip (runs_down o Y) S.h p.y i.y_in,
    flip_flip (runs_down o Z) S.d p.z i.z_in,
  )

  -- the step ahead on an axis: to the place with one step less, or over the edge if none is left
  pub next_left : (s : Place) → Inside S s → (a : Axis)
      → next S (to_go S o s) (ahead o a) ≡ cond (ltb 0 (on s a)) (Some (to_go S o (put a s (on s a - 1)))) None
  next_left s i X = next_along S (to_go S o s) (to_go_in s i) X (runs_down o X) ∙ step_flip (runs_down o X) S.w s.x (put X (to_go S o s)) i.x_in
  next_left s i Y = next_along S (to_go S o s) (to_go_in s i) Y (runs_down o Y) ∙ step_flip (runs_down o Y) S.h s.y (put Y (to_go S o s)) i.y_in
  next_left s i Z = next_along S (to_go S o s) (to_go_in s i) Z (runs_down o Z) ∙ step_flip (runs_down o Z) S.d s.z (put Z (to_go S o s)) i.z_in

  -- no walk ahead is longer than W + H + D
  pub left_lt : (p : Place) → Inside S p → left S o p < S.w + S.h + S.d
  left_lt p i = let q = to_go_in p i in omega arith

  -- a step ahead leaves fewer steps
  pub nearer : (p q : Place) (a : Axis) → Inside S p → next S p (ahead o a) ≡ Some q → left S o q < left S o p
  nearer p q a i e = let (t, f) = led S p i a (runs_down o a) q e in rw f (lower a t)
    where
      lower : (a : Axis) → T (room (runs_down o a) (on p a) (span S a)) → left S o (put a p (go (runs_down o a) (on p a))) < left S o p
      lower X t = omega (arith, fall (runs_down o X) S.w p.x t i.x_in)
      lower Y t = omega (arith, fall (runs_down o Y) S.h p.y t i.y_in)
      lower Z t = omega (arith, fall (runs_down o Z) S.d p.z t i.z_in)
