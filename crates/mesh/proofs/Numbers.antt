-- Numbers and places undo each other: digits x + w × r with x below w. Assumes nothing.
use mathlib.Core.Path.{◌≡◌, sym, ap, ◌∙◌}
use Prim.Native.Nat.{ℕ, zero, suc, ◌+◌, ◌*◌, ◌/◌, ◌%◌, ◌<◌, ◌≤◌}
use native.Mathlib.Nat.{mul-le-mul, mul-add, mul-one, mul_comm, mul-le-mul_left, add-mul-mod_self_left, add-mul-div_left, mod-eq_of_lt, div-eq_of_lt, mod-lt, mod-add-div, div-lt_iff_lt-mul, zero-add}
use native.Mathlib.Omega.{arith}
use Rattle.mesh.specs.Mesh.{InRange, Inside, nodes, number, place_of}
use Rattle.mesh.specs.declared.Sizes.{Sizes}
use Rattle.mesh.specs.declared.Place.{Place}

pub room : (w : ℕ) {r n : ℕ} → r < n → w + w * r ≤ w * n
room w {r} {n} h =
    let k : r + 1 ≤ n = omega arith in
    let e : w * (r + 1) ≡ w * r + w = mul-add w r 1 ∙ ap (λ (j : ℕ). w * r + j) (mul-one w) in
    omega (arith, mul-le-mul_left w k)

pub digit_lt : {x w r n : ℕ} → x < w → r < n → x + w * r < w * n
digit_lt {x} {w} {r} {n} h k = omega (arith, room w k)

pub digit_eq : (w a b r s : ℕ) → a < w → b < w → a + w * r ≡ b + w * s → (a ≡ b) × (r ≡ s)
digit_eq w a b r s ha hb e =
    let ea : (a + w * r) % w ≡ a = add-mul-mod_self_left a w r ∙ mod-eq_of_lt ha in
    let eb : (b + w * s) % w ≡ b = add-mul-mod_self_left b w s ∙ mod-eq_of_lt hb in
    let qa : (a + w * r) / w ≡ r = add-mul-div_left a r (omega arith) ∙ ap (λ (j : ℕ). j + r) (div-eq_of_lt ha) ∙ zero-add r in
    let qb : (b + w * s) / w ≡ s = add-mul-div_left b s (omega arith) ∙ ap (λ (j : ℕ). j + s) (div-eq_of_lt hb) ∙ zero-add s in
    (sym ea ∙ ap (λ (j : ℕ). j % w) e ∙ eb, sym qa ∙ ap (λ (j : ℕ). j / w) e ∙ qb)

-- "N .. at most 4,096"
pub nodes_le : (S : Sizes) → InRange S → nodes S ≤ 4096
nodes_le S r = mul-le-mul r.w_hi (mul-le-mul r.h_hi r.d_hi)

-- and at most 256 rows, or nodes of a layer
pub rows_le : (S : Sizes) → InRange S → S.h * S.d ≤ 256
rows_le S r = mul-le-mul r.h_hi r.d_hi

pub number_lt : (S : Sizes) (p : Place) → Inside S p → number S p < nodes S
number_lt S p i = digit_lt i.x_in (digit_lt i.y_in i.z_in)

-- the number of a node's place is the node
pub number_of : (S : Sizes) (k : ℕ) → number S (place_of S k) ≡ k
number_of S k = ap (λ (r : ℕ). k % S.w + S.w * r) (mod-add-div (k / S.w) S.h) ∙ mod-add-div k S.w

-- the place of a node is in the mesh
pub place_in : (S : Sizes) (k : ℕ) → k < nodes S → Inside S (place_of S k)
place_in S k h =
    let hw : 0 < S.w = factor S.w (S.h * S.d) h in
    let row : k / S.w < S.h * S.d = (div-lt_iff_lt-mul hw).1 (rw (mul_comm (S.h * S.d) S.w) h) in
    let hh : 0 < S.h = factor S.h S.d row in
    record { x_in = mod-lt k hw; y_in = mod-lt (k / S.w) hh; z_in = (div-lt_iff_lt-mul hh).1 (rw (mul_comm S.d S.h) row) }
  where
    factor : (a b : ℕ) {i : ℕ} → i < a * b → 0 < a
    factor zero b l = omega arith
    factor (suc a) b l = omega arith

-- the place of a place's number is the place
pub place_of_lem : (S : Sizes) (p : Place) → Inside S p → place_of S (number S p) ≡ p
place_of_lem S p i =
    let k : ℕ = number S p in
    let q : Inside S (place_of S k) = place_in S k (number_lt S p i) in
    let e1 = digit_eq S.w _ _ _ _ q.x_in i.x_in (number_of S k) in
    let e2 = digit_eq S.h _ _ _ _ q.y_in i.y_in e1.1 in
    rw (e1.0, e2.0, e2.1)

-- two places of one number are one place
pub number_eq : (S : Sizes) (p q : Place) → Inside S p → Inside S q → number S p ≡ number S q → p ≡ q
number_eq S p q i j e = sym (place_of_lem S p i) ∙ ap (place_of S) e ∙ place_of_lem S q j

-- the first number after a row, and after a layer
pub row_end : (w h y z : ℕ) → w + w * (y + h * z) ≡ w * ((y + 1) + h * z)
row_end w h y z =
    let e : (y + 1) + h * z ≡ (y + h * z) + 1 = omega arith in
    let q : w * ((y + h * z) + 1) ≡ w * (y + h * z) + w = mul-add w (y + h * z) 1 ∙ ap (λ (j : ℕ). w * (y + h * z) + j) (mul-one w) in
    rw e (omega arith)

pub layer_end : (w h z : ℕ) → w * (h + h * z) ≡ w * (h * (z + 1))
layer_end w h z =
    let q : h * (z + 1) ≡ h * z + h = mul-add h z 1 ∙ ap (λ (j : ℕ). h * z + j) (mul-one h) in
    ap (λ (j : ℕ). w * j) (omega arith)
