-- The grid: places and spots undo each other, and the eighteen steps around a spot are those to the touching places. Assumes nothing.
use mathlib.Core.Path.{◌≡◌}
use mathlib.Core.Bool.{Bool, ◌&&◌}
use Prim.Native.Nat.{ℕ, ◌+◌, ◌-◌, ◌*◌, ◌/◌, ◌%◌, ◌≤◌, ◌<◌}
use native.Mathlib.Omega.{arith}
use lib.Dec.{T, leb, ltb, leb→le, ltb→lt, eqb}
use lib.ListN.{get_or}
use Rattle.mesh.specs.Tools.{all, any, implies}
use Rattle.mesh.proofs.Tests.{T-all, T-any, T-and, T-implies, T-eq}
use Rattle.mesh.specs.declared.Place.{Place}
use Rattle.touching.specs.Touch.{touch}
use Rattle.touching.proofs.Eighteen.{turns, touch_digits, digits_touch}
use Rattle.grids.specs.Grid.{spot, place_at, Spot, around, Beside}

-- ---- the steps stay in the grid

pub spot_le : (j : ℕ) → Spot j → j ≤ 4912
spot_le j s = omega (arith, s.inner, s.x_in, s.y_in, s.z_in)

all_near : T (all 18 λ o. leb (get_or around o 0) 613)
unfolding all
all_near = tt

pub around_le : (o : ℕ) → o < 18 → get_or around o 0 ≤ 613
around_le o h = leb→le (get_or around o 0) 613 ((T-all 18 (λ o. leb (get_or around o 0) 613)).0 all_near o h)

-- ---- places and spots

pub spot_at : (j : ℕ) → 307 ≤ j → spot (place_at j) ≡ j
spot_at j h = omega arith

pub at_spot : (p : Place) → p.x < 17 → p.y < 17 → place_at (spot p) ≡ p
at_spot p hx hy = rw (ex, ey, ez)
  where
    ex : (spot p - 307) % 17 ≡ p.x
    ex = omega arith

    ey : (spot p - 307) / 17 % 17 ≡ p.y
    ey = omega arith

    ez : (spot p - 307) / 289 ≡ p.z
    ez = omega arith

-- ---- the steps

-- the step with these digits
abbrev pub step : ℕ → ℕ → ℕ → ℕ
step a b c = a + 17 * b + 289 * c

-- each such step is in the table, and the table has no other; back again is in the table too
abbrev in_table : ℕ → Bool
in_table v = any 18 λ o. eqb (get_or around o 0) v

abbrev listed : ℕ → ℕ → ℕ → Bool
listed c b a = implies (turns a b c) (in_table (step a b c))

all_listed : T (all 3 λ c. all 3 λ b. all 3 λ a. listed c b a)
unfolding all any
all_listed = tt

abbrev a_step : ℕ → Bool
a_step v = ltb (v % 17) 3 && ltb (v / 17 % 17) 3 && ltb (v / 289) 3 && turns (v % 17) (v / 17 % 17) (v / 289)

all_steps : T (all 18 λ o. a_step (get_or around o 0))
unfolding all
all_steps = tt

all_back : T (all 18 λ o. in_table (614 - get_or around o 0))
unfolding all any
all_back = tt

beside_by : (i j v : ℕ) → T (in_table v) → j + 307 ≡ i + v → Beside i j
beside_by i j v t e = let (o, h, x) = (T-any 18 (λ o. eqb (get_or around o 0) v)).0 t in (o, h, rw ((T-eq (get_or around o 0) v).0 x) e)

pub beside_step : (i j a b c : ℕ) → a < 3 → b < 3 → c < 3 → T (turns a b c) → j + 307 ≡ i + step a b c → Beside i j
beside_step i j a b c ha hb hc t e =
    let layer = (T-all 3 (λ c. all 3 λ b. all 3 λ a. listed c b a)).0 all_listed c hc in
    let row = (T-all 3 (λ b. all 3 λ a. listed c b a)).0 layer b hb in
    let one = (T-all 3 (λ a. listed c b a)).0 row a ha in
    beside_by i j (step a b c) ((T-implies (turns a b c) (in_table (step a b c))).0 one t) e

pub beside_sym : (i j : ℕ) → Beside i j → Beside j i
beside_sym i j b =
    let (o, h, e) = b in
    beside_by j i (614 - get_or around o 0) ((T-all 18 (λ o. in_table (614 - get_or around o 0))).0 all_back o h) (omega (arith, around_le o h))

-- ---- the steps are those between touching places

pub touch_beside : (p q : Place) → T (touch p q) → Beside (spot p) (spot q)
touch_beside p q t =
    let (a, b, c, s) = touch_digits p q t in
    let (ha, hb, hc) = s.small in
    beside_step (spot p) (spot q) a b c ha hb hc s.turning (omega (arith, s.on_x, s.on_y, s.on_z))

-- the digits of a sum of bounded coordinates
digits : (x y z x' y' z' a b c : ℕ) → x < 16 → y < 16 → x' < 16 → y' < 16 → a < 3 → b < 3
    → 307 + (x' + 17 * y' + 289 * z') + 307 ≡ 307 + (x + 17 * y + 289 * z) + (a + 17 * b + 289 * c) → (x' + 1 ≡ x + a)
    × (y' + 1 ≡ y + b) × (z' + 1 ≡ z + c)
digits x y z x' y' z' a b c hx hy hx' hy' ha hb e = (omega arith, omega arith, omega arith)

pub beside_touch : (p q : Place) → p.x < 16 → p.y < 16 → q.x < 16 → q.y < 16 → Beside (spot p) (spot q) → T (touch p q)
beside_touch p q hx hy hx' hy' bs =
    let (o, h, e) = bs in
    by_step (get_or around o 0) ((T-all 18 (λ o. a_step (get_or around o 0))).0 all_steps o h) e
  where
    by_step : (v : ℕ) → T (a_step v) → spot q + 307 ≡ spot p + v → T (touch p q)
    by_step v t e =
        let (u, tu) = (T-and (ltb (v % 17) 3 && ltb (v / 17 % 17) 3 && ltb (v / 289) 3) (turns (v % 17) (v / 17 % 17) (v / 289))).0 t in
        let (u', tc) = (T-and (ltb (v % 17) 3 && ltb (v / 17 % 17) 3) (ltb (v / 289) 3)).0 u in
        let (ta, tb) = (T-and (ltb (v % 17) 3) (ltb (v / 17 % 17) 3)).0 u' in
        let ha = ltb→lt (v % 17) 3 ta in
        let hb = ltb→lt (v / 17 % 17) 3 tb in
        let f : v ≡ v % 17 + 17 * (v / 17 % 17) + 289 * (v / 289) = omega arith in
        let (ea, eb, ec) = digits p.x p.y p.z q.x q.y q.z (v % 17) (v / 17 % 17) (v / 289) hx hy hx' hy' ha hb (omega arith) in
        digits_touch p q (v % 17) (v / 17 % 17) (v / 289)
        record { small = (ha, hb, ltb→lt (v / 289) 3 tc); on_x = ea; on_y = eb; on_z = ec; turning = tu }
