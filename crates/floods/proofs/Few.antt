-- There are at most 1,024 components: two unsafe nodes with the same x and the same halves of y and z touch. Assumes nothing.
use mathlib.Core.Path.{◌≡◌, sym, ap, ◌∙◌}
use mathlib.Core.Logic.{◌⊎◌, inl, inr}
use mathlib.Core.Bool.{Bool, not, ◌&&◌, ◌||◌}
use mathlib.Core.List.{List}
use Prim.Native.Nat.{ℕ, suc, ◌+◌, ◌-◌, ◌*◌, ◌/◌, ◌%◌, ◌≤◌, ◌<◌}
use native.Mathlib.Omega.{arith}
use lib.Dec.{T, eqb, ltb, ltb→lt, nltb→le, lit<}
use lib.ListN.{get_or}
use Rattle.mesh.specs.Tools.{all}
use Rattle.mesh.proofs.Tests.{T-and, T-or, T-eq, T-all, tried}
use Rattle.grids.specs.Grid.{unseen, spot, place_at, Spot, Beside}
use Rattle.floods.specs.Label.{Untouched, Labelled}
use Rattle.mesh.specs.declared.Place.{Place}
use Rattle.touching.specs.declared.Component.{Component}
use Rattle.touching.proofs.Eighteen.{turns}
use Rattle.grids.proofs.Around.{step, spot_at, beside_step}
use Rattle.touching.proofs.Counts.{few}
use Rattle.floods.proofs.Labels.{was_unseen}

-- ---- spots of the same x and the same halves of y and z

abbrev block : ℕ → ℕ → ℕ → ℕ
block x y z = x + 16 * (y / 2) + 128 * (z / 2)

block_lt : (x y z : ℕ) → x < 16 → y < 16 → z < 16 → block x y z < 1024
block_lt x y z hx hy hz =
    let a : y / 2 < 8 = omega arith in
    let b : z / 2 < 8 = omega arith in
    omega arith

block_eq : (x a b x' a' b' : ℕ) → x < 16 → a < 8 → x' < 16 → a' < 8 → x + 16 * a + 128 * b ≡ x' + 16 * a' + 128 * b' → (x ≡ x') × (a ≡ a') × (b ≡ b')
block_eq x a b x' a' b' hx ha hx' ha' e = (omega arith, omega arith, omega arith)

halves : (m n : ℕ) → m / 2 ≡ n / 2 → (a : ℕ) × (a < 3) × (n + 1 ≡ m + a)
halves m n e = (n + 1 - m, omega arith, omega arith)

-- a step on y and z alone is a step, unless it stays
abbrev stayed : ℕ → ℕ → Bool
stayed b c = eqb b 1 && eqb c 1

all_turn : T (all 3 λ b. all 3 λ c. stayed b c || turns 1 b c)
unfolding all
all_turn = tt

stays_or_turns : (b c : ℕ) → b < 3 → c < 3 → ((b ≡ 1) × (c ≡ 1)) ⊎ T (turns 1 b c)
stays_or_turns b c hb hc =
    let row = (T-all 3 (λ b. all 3 λ c. stayed b c || turns 1 b c)).0 all_turn b hb in
    elim ((T-or (stayed b c) (turns 1 b c)).0 ((T-all 3 (λ c. stayed b c || turns 1 b c)).0 row c hc)) [
      | inl t ↦ let (x, y) = (T-and (eqb b 1) (eqb c 1)).0 t in inl ((T-eq b 1).0 x, (T-eq c 1).0 y)
      | inr t ↦ inr t
    ]

abbrev block_of : ℕ → ℕ
block_of j = block ((j - 307) % 17) ((j - 307) / 17 % 17) ((j - 307) / 289)

stepped : (i j x y z x' y' z' b c : ℕ) → i ≡ 307 + (x + 17 * y + 289 * z) → j ≡ 307 + (x' + 17 * y' + 289 * z') → x ≡ x'
    → y' + 1 ≡ y + b → z' + 1 ≡ z + c
    → j + 307 ≡ i + step 1 b c
stepped i j x y z x' y' z' b c ei ej ex ey ez = omega arith

stay : (i j b c : ℕ) → j + 307 ≡ i + step 1 b c → b ≡ 1 → c ≡ 1 → i ≡ j
stay i j b c f eb ec = omega arith

near : (i j : ℕ) → Spot i → Spot j → block_of i ≡ block_of j → (i ≡ j) ⊎ Beside i j
near i j s t e = by_places (place_at i) (place_at j) (sym (spot_at i s.inner)) (sym (spot_at j t.inner)) s.x_in s.y_in t.x_in t.y_in e
  where
    half : (y : ℕ) → y < 16 → y / 2 < 8
    half y h = omega arith

    by_places : (p q : Place) → i ≡ spot p → j ≡ spot q → p.x < 16 → p.y < 16 → q.x < 16 → q.y < 16
        → block p.x p.y p.z ≡ block q.x q.y q.z → (i ≡ j) ⊎ Beside i j
    by_places p q ei ej hx hy hx' hy' e =
        let (ex, ey, ez) = block_eq p.x (p.y / 2) (p.z / 2) q.x (q.y / 2) (q.z / 2) hx (half p.y hy) hx' (half q.y hy') e in
        let (b, hb, eb) = halves p.y q.y ey in
        let (c, hc, ec) = halves p.z q.z ez in
        let f = stepped i j p.x p.y p.z q.x q.y q.z b c ei ej ex eb ec in
        elim (stays_or_turns b c hb hc) [
          | inl w ↦ inl (stay i j b c f w.0 w.1)
          | inr w ↦ inr (beside_step i j 1 b c (lit< tt) hb hc w f)
        ]

-- ---- one more component than 1,024 cannot be

module _ (g : List ℕ) (k n : ℕ) (h : List ℕ) (row : List Component) (L : Labelled g k n h row) (un : Untouched g)
    (u : get_or h k 0 ≡ unseen) (small : suc n < unseen) where
  -- a place of each component, and k after them; what it holds
  abbrev Case : ℕ → Type 0
  Case i = T (ltb i n) ⊎ T (not (ltb i n))

  place_held : (i : ℕ) → Case i → ℕ
  place_held i (inl t) = (L.linked i (ltb→lt i n t)).0
  place_held i (inr t) = k

  holds : (i : ℕ) (s : Case i) → i ≤ n → (get_or h (place_held i s) 0 ≡ suc i) ⊎ ((get_or h (place_held i s) 0 ≡ unseen) × (i ≡ n))
  unfolding place_held
  holds i (inl t) l = inl (L.linked i (ltb→lt i n t)).2
  holds i (inr t) l = inr (u, omega (arith, nltb→le i n t))

  land : (i : ℕ) (s : Case i) → i ≤ n → get_or g (place_held i s) 0 ≡ unseen
  land i s l = elim (holds i s l) [
    | inl e ↦ elim (L.kept (place_held i s)) [
      | inl w ↦ elim (un (place_held i s)) [ inl z ↦ absurd (omega arith) | inr z ↦ z.0 ]
      | inr w ↦ w.0
    ]
    | inr e ↦ was_unseen g k n h row L small un (place_held i s) e.0
  ]

  a_spot : (i : ℕ) (s : Case i) → i ≤ n → Spot (place_held i s)
  a_spot i s l = elim (un (place_held i s)) [ inl z ↦ absurd (omega (arith, land i s l)) | inr z ↦ z.1 ]

  apart : (i j : ℕ) (s : Case i) (t : Case j) → i < j → j ≤ n → block_of (place_held i s) ≡ block_of (place_held j t) → ⊥
  apart i j s t l k e = elim (holds i s (omega arith)) [
    | inr w ↦ omega (arith, w.1)
    | inl w ↦ elim (near (place_held i s) (place_held j t) (a_spot i s (omega arith)) (a_spot j t k) e) [
      | inl q ↦ other (ap (λ (a : ℕ). get_or h a 0) (sym q) ∙ w)
      | inr q ↦ other (L.closed (place_held i s) (place_held j t) (omega arith) (omega arith) q (land j t k) ∙ w)
    ]
  ]
    where
      other : get_or h (place_held j t) 0 ≡ suc i → ⊥
      other f = elim (holds j t k) [ inl w ↦ omega arith | inr w ↦ omega (arith, w.0) ]

  pub one_more : n < 1024
  one_more =
      few (λ i. block_of (place_held i (tried (ltb i n)))) 1024 (suc n)
      (λ i l. let s = a_spot i (tried (ltb i n)) (omega arith) in block_lt _ _ _ s.x_in s.y_in s.z_in)
      (λ i j l k. apart i j (tried (ltb i n)) (tried (ltb j n)) l (omega arith))
