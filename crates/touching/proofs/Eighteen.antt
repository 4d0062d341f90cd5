-- Touching goes both ways, to eighteen places: by digits 0, 1, 2 for a step by -1, 0, 1 on each axis, one or two of them not 1. Assumes nothing.
use mathlib.Core.Path.{◌≡◌, refl}
use mathlib.Core.Bool.{Bool}
use Prim.Native.Nat.{ℕ, ◌+◌, ◌-◌, ◌≤◌, ◌<◌}
use native.Mathlib.Omega.{arith}
use lib.Dec.{T, leb, leb→le, le→leb}
use Rattle.mesh.specs.Tools.{sum, count, between}
use Rattle.mesh.specs.Mesh.{Axis, X, Y, Z, every, place}
use Rattle.mesh.proofs.Tests.{T-and, T-every}
use Rattle.mesh.specs.declared.Place.{Place}
use Rattle.touching.specs.Touch.{apart, touch}

-- ---- touching goes both ways

apart_sym : (p q : Place) (a : Axis) → apart p q a ≡ apart q p a
apart_sym p q X = omega arith
apart_sym p q Y = omega arith
apart_sym p q Z = omega arith

pub touch_sym : (p q : Place) → touch p q ≡ touch q p
unfolding touch
touch_sym p q = rw (apart_sym p q X, apart_sym p q Y, apart_sym p q Z)

-- ---- which places touch

-- of the 27 places that differ from a place by at most 1 on each axis, eighteen touch it
pub eighteen : sum 3 (λ c. sum 3 λ b. count 3 λ a. touch (place 1 1 1) (place a b c)) ≡ 18
unfolding sum touch
eighteen = refl

-- ---- the digits of a step

abbrev off : ℕ → ℕ
off d = 1 - d + (d - 1)

abbrev pub turns : ℕ → ℕ → ℕ → Bool
turns a b c = between 1 2 (off a + off b + off c)

-- the digits of the step from p to a touching place q
pub record Digits (p q : Place) (a b c : ℕ) : Type 0 where
  pub small : (a < 3) × (b < 3) × (c < 3)
  pub on_x : q.x + 1 ≡ p.x + a
  pub on_y : q.y + 1 ≡ p.y + b
  pub on_z : q.z + 1 ≡ p.z + c
  pub turning : T (turns a b c)

-- by how much two coordinates differ, and the digit of the step from m to n
abbrev gap : ℕ → ℕ → ℕ
gap m n = m - n + (n - m)

digit : (m n : ℕ) → gap m n ≤ 1 → (a : ℕ) × (a < 3) × (n + 1 ≡ m + a) × (gap m n ≡ off a)
digit m n h = (n + 1 - m, omega arith, omega arith, omega arith)

gap_of : (m n a : ℕ) → a < 3 → n + 1 ≡ m + a → (gap m n ≡ off a) × (gap m n ≤ 1)
gap_of m n a h e = (omega arith, omega arith)

pub touch_digits : (p q : Place) → T (touch p q) → (a : ℕ) × (b : ℕ) × (c : ℕ) × Digits p q a b c
unfolding touch
touch_digits p q t =
    let (u, v) = (T-and (every (λ a. leb (apart p q a) 1)) (between 1 2 (apart p q X + apart p q Y + apart p q Z))).0 t in
    let f = (T-every (λ a. leb (apart p q a) 1)).0 u in
    by_digit (digit p.x q.x (leb→le (apart p q X) 1 (f X))) (digit p.y q.y (leb→le (apart p q Y) 1 (f Y)))
    (digit p.z q.z (leb→le (apart p q Z) 1 (f Z))) v
  where
    by_digit : (a : ℕ) × (a < 3) × (q.x + 1 ≡ p.x + a) × (gap p.x q.x ≡ off a)
        → (b : ℕ) × (b < 3) × (q.y + 1 ≡ p.y + b) × (gap p.y q.y ≡ off b)
        → (c : ℕ) × (c < 3) × (q.z + 1 ≡ p.z + c) × (gap p.z q.z ≡ off c)
        → T (between 1 2 (gap p.x q.x + gap p.y q.y + gap p.z q.z))
        → (a : ℕ) × (b : ℕ) × (c : ℕ) × Digits p q a b c
    by_digit (a, ha, ea, fa) (b, hb, eb, fb) (c, hc, ec, fc) v =
        (a, b, c, record { small = (ha, hb, hc); on_x = ea; on_y = eb; on_z = ec; turning = rw (fa, fb, fc) at v })

pub digits_touch : (p q : Place) (a b c : ℕ) → Digits p q a b c → T (touch p q)
unfolding touch
digits_touch p q a b c s =
    let (ha, hb, hc) = s.small in
    let (fx, lx) = gap_of p.x q.x a ha s.on_x in
    let (fy, ly) = gap_of p.y q.y b hb s.on_y in
    let (fz, lz) = gap_of p.z q.z c hc s.on_z in
    (T-and (every (λ a. leb (apart p q a) 1)) (between 1 2 (apart p q X + apart p q Y + apart p q Z))).1 (
      (T-every (λ a. leb (apart p q a) 1)).1 (elim [ X ↦ le→leb (apart p q X) 1 lx | Y ↦ le→leb (apart p q Y) 1 ly | Z ↦ le→leb (apart p q Z) 1 lz ]),
      rw (fx, fy, fz) s.turning,
    )
