-- A run from one coordinate to another, step by step: its first end lies back as long as a step was taken, its last end onward as long as
-- one is left; and the same of a box, on each axis. Assumes nothing.
use mathlib.Core.Path.{◌≡◌, refl, ap}
use mathlib.Core.Bool.{Bool, true, false, cond, not}
use Prim.Native.Nat.{ℕ, ◌+◌, ◌-◌, ◌<◌, ◌≤◌}
use native.Mathlib.Omega.{arith}
use lib.IntN.{nat_abs, sub_ℕ}
use lib.Dec.{ltb, ltb→lt, lt→ltb}
use borrow.Author.Tests.{ltb-true, ltb-false, le-ltb}
use Rattle.mesh.specs.Mesh.{Axis, X, Y, Z, on, place, Inside}
use Rattle.mesh.proofs.Tests.{bool_ext}
use Rattle.mesh.proofs.Steps.{go, put}
use Rattle.mesh.specs.declared.Sizes.{Sizes}
use Rattle.mesh.specs.declared.Place.{Place}
use Rattle.paths.proofs.Differences.{lies, size_is, place_eq}
use Rattle.rows.specs.Box.{run, between, gone, reach, far, Within, OnAxis, Held}
use Rattle.rows.specs.declared.Run.{Run}
use Rattle.rows.specs.declared.Between.{Between}

ltb_same : (a b c d : ℕ) → (a < b → c < d) → (c < d → a < b) → ltb a b ≡ ltb c d
ltb_same a b c d f g = bool_ext (ltb a b) (ltb c d) (λ t. lt→ltb c d (f (ltb→lt a b t))) (λ t. lt→ltb a b (g (ltb→lt c d t)))

-- ---- one axis: from c to b

module _ (c b i : ℕ) (h : i ≤ nat_abs (sub_ℕ b c)) where
  -- back to where it began
  back_lies : lies (not (ltb b c)) (gone (run c b) i) c ≡ ltb 0 i
  back_lies = split (ltb b c) refl
    where
      split : (t : Bool) → ltb b c ≡ t → lies (not t) (cond t (c - i) (c + i)) c ≡ ltb 0 i
      split true e = ltb_same (c - i) c 0 i (omega arith) (omega (arith, size_is c b, ltb-true b c e))
      split false e = ltb_same c (c + i) 0 i (omega arith) (omega arith)

  back_not : lies (ltb b c) (gone (run c b) i) c ≡ false
  back_not = split (ltb b c) refl
    where
      split : (t : Bool) → ltb b c ≡ t → lies t (cond t (c - i) (c + i)) c ≡ false
      split true e = le-ltb c (c - i) (omega arith)
      split false e = le-ltb (c + i) c (omega arith)

  back_go : 0 < i → go (not (ltb b c)) (gone (run c b) i) ≡ gone (run c b) (i - 1)
  back_go k = split (ltb b c) refl
    where
      split : (t : Bool) → ltb b c ≡ t → go (not t) (cond t (c - i) (c + i)) ≡ cond t (c - (i - 1)) (c + (i - 1))
      split true e = omega (arith, size_is c b, ltb-true b c e)
      split false e = omega arith

  -- on to where it ends
  on_lies : lies (ltb b c) (gone (run c b) i) b ≡ ltb i (nat_abs (sub_ℕ b c))
  on_lies = split (ltb b c) refl
    where
      split : (t : Bool) → ltb b c ≡ t → lies t (cond t (c - i) (c + i)) b ≡ ltb i (nat_abs (sub_ℕ b c))
      split true e = ltb_same b (c - i) i (nat_abs (sub_ℕ b c)) (omega (arith, size_is c b, ltb-true b c e)) (omega (arith, size_is c b, ltb-true b c e))
      split false e = ltb_same (c + i) b i (nat_abs (sub_ℕ b c)) (omega (arith, size_is c b, ltb-false b c e)) (omega (arith, size_is c b, ltb-false b c e))

  on_not : lies (not (ltb b c)) (gone (run c b) i) b ≡ false
  on_not = split (ltb b c) refl
    where
      split : (t : Bool) → ltb b c ≡ t → lies (not t) (cond t (c - i) (c + i)) b ≡ false
      split true e = le-ltb (c - i) b (omega (arith, size_is c b, ltb-true b c e))
      split false e = le-ltb b (c + i) (omega (arith, size_is c b, ltb-false b c e))

  on_go : i < nat_abs (sub_ℕ b c) → go (ltb b c) (gone (run c b) i) ≡ gone (run c b) (i + 1)
  on_go k = split (ltb b c) refl
    where
      split : (t : Bool) → ltb b c ≡ t → go t (cond t (c - i) (c + i)) ≡ cond t (c - (i + 1)) (c + (i + 1))
      split true e = omega (arith, size_is c b, ltb-true b c e)
      split false e = omega arith

  gone_eq : (j : ℕ) → j ≤ nat_abs (sub_ℕ b c) → gone (run c b) i ≡ gone (run c b) j → i ≡ j
  gone_eq j k = split (ltb b c) refl
    where
      split : (t : Bool) → ltb b c ≡ t → cond t (c - i) (c + i) ≡ cond t (c - j) (c + j) → i ≡ j
      split true e q = omega (arith, size_is c b, ltb-true b c e)
      split false e q = omega arith

gone_first : (c b : ℕ) → gone (run c b) 0 ≡ c
gone_first c b = split (ltb b c)
  where
    split : (t : Bool) → cond t (c - 0) (c + 0) ≡ c
    split true = omega arith
    split false = omega arith

gone_last : (c b : ℕ) → gone (run c b) (nat_abs (sub_ℕ b c)) ≡ b
gone_last c b = split (ltb b c) refl
  where
    split : (t : Bool) → ltb b c ≡ t → cond t (c - nat_abs (sub_ℕ b c)) (c + nat_abs (sub_ℕ b c)) ≡ b
    split true e = omega (arith, size_is c b, ltb-true b c e)
    split false e = omega (arith, size_is c b, ltb-false b c e)

run_on_lem : (c b n : ℕ) → c < n → b < n → OnAxis (run c b) n
run_on_lem c b n hc hb = record {
  starts = hc;
  low = λ e. omega (arith, size_is c b, ltb-true b c e);
  high = λ e. omega (arith, size_is c b, ltb-false b c e);
}

pub held : (S : Sizes) (u v : Place) → Inside S u → Inside S v → Held S (between u v)
held S u v i j = record {
  x_on = run_on_lem u.x v.x S.w i.x_in j.x_in;
  y_on = run_on_lem u.y v.y S.h i.y_in j.y_in;
  z_on = run_on_lem u.z v.z S.d i.z_in j.z_in;
}

-- ---- a box, by axis

abbrev pub run_on : Between → Axis → Run
run_on g X = g.x
run_on g Y = g.y
run_on g Z = g.z

pub put_put : (a : Axis) (t : Place) (i : ℕ) → put a (put a t i) (on t a) ≡ t
put_put X t i = refl
put_put Y t i = refl
put_put Z t i = refl

pub within_on : (g : Between) (t : Place) → Within g t → (a : Axis) → on t a ≤ (run_on g a).steps
within_on g t w X = w.x_le
within_on g t w Y = w.y_le
within_on g t w Z = w.z_le

pub within_put : (g : Between) (t : Place) → Within g t → (a : Axis) (i : ℕ) → i ≤ (run_on g a).steps → Within g (put a t i)
within_put g t w X i h = record { x_le = h; y_le = w.y_le; z_le = w.z_le }
within_put g t w Y i h = record { x_le = w.x_le; y_le = h; z_le = w.z_le }
within_put g t w Z i h = record { x_le = w.x_le; y_le = w.y_le; z_le = h }

-- no step, and every step
abbrev pub origin : Place
origin = place 0 0 0

pub reach_first : (u v : Place) → reach (between u v) origin ≡ u
reach_first u v = place_eq (reach (between u v) origin) u (gone_first u.x v.x) (gone_first u.y v.y) (gone_first u.z v.z)

pub reach_far : (u v : Place) → reach (between u v) (far (between u v)) ≡ v
reach_far u v = place_eq (reach (between u v) (far (between u v))) v (gone_last u.x v.x) (gone_last u.y v.y) (gone_last u.z v.z)

-- a place tells the steps to it
pub reach_eq : (u v t t' : Place) → Within (between u v) t → Within (between u v) t' → reach (between u v) t ≡ reach (between u v) t' → t ≡ t'
reach_eq u v t t' w w' e = place_eq t t'
    (gone_eq u.x v.x t.x w.x_le t'.x w'.x_le (ap (λ (p : Place). p.x) e))
    (gone_eq u.y v.y t.y w.y_le t'.y w'.y_le (ap (λ (p : Place). p.y) e))
    (gone_eq u.z v.z t.z w.z_le t'.z w'.z_le (ap (λ (p : Place). p.z) e))

module _ (u v t : Place) (w : Within (between u v) t) where
  pub lies_back : (a : Axis) → lies (not (run_on (between u v) a).down) (on (reach (between u v) t) a) (on u a) ≡ ltb 0 (on t a)
  lies_back X = back_lies u.x v.x t.x w.x_le
  lies_back Y = back_lies u.y v.y t.y w.y_le
  lies_back Z = back_lies u.z v.z t.z w.z_le

  pub lies_back_not : (a : Axis) → lies (run_on (between u v) a).down (on (reach (between u v) t) a) (on u a) ≡ false
  lies_back_not X = back_not u.x v.x t.x w.x_le
  lies_back_not Y = back_not u.y v.y t.y w.y_le
  lies_back_not Z = back_not u.z v.z t.z w.z_le

  pub put_back : (a : Axis) → 0 < on t a
      → put a (reach (between u v) t) (go (not (run_on (between u v) a).down) (on (reach (between u v) t) a)) ≡ reach (between u v) (put a t (on t a - 1))
  put_back X h = ap (put X (reach (between u v) t)) (back_go u.x v.x t.x w.x_le h)
  put_back Y h = ap (put Y (reach (between u v) t)) (back_go u.y v.y t.y w.y_le h)
  put_back Z h = ap (put Z (reach (between u v) t)) (back_go u.z v.z t.z w.z_le h)

  pub lies_on : (a : Axis) → lies (run_on (between u v) a).down (on (reach (between u v) t) a) (on v a) ≡ ltb (on t a) (run_on (between u v) a).steps
  lies_on X = on_lies u.x v.x t.x w.x_le
  lies_on Y = on_lies u.y v.y t.y w.y_le
  lies_on Z = on_lies u.z v.z t.z w.z_le

  pub lies_on_not : (a : Axis) → lies (not (run_on (between u v) a).down) (on (reach (between u v) t) a) (on v a) ≡ false
  lies_on_not X = on_not u.x v.x t.x w.x_le
  lies_on_not Y = on_not u.y v.y t.y w.y_le
  lies_on_not Z = on_not u.z v.z t.z w.z_le

  pub put_on : (a : Axis) → on t a < (run_on (between u v) a).steps
      → put a (reach (between u v) t) (go (run_on (between u v) a).down (on (reach (between u v) t) a)) ≡ reach (between u v) (put a t (on t a + 1))
  put_on X h = ap (put X (reach (between u v) t)) (on_go u.x v.x t.x w.x_le h)
  put_on Y h = ap (put Y (reach (between u v) t)) (on_go u.y v.y t.y w.y_le h)
  put_on Z h = ap (put Z (reach (between u v) t)) (on_go u.z v.z t.z w.z_le h)
