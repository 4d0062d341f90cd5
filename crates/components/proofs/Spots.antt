-- The nodes of a mesh and their spots in the grid: which spots are unsafe, and that spots keep the order of the nodes. Assumes nothing.
use mathlib.Core.Path.{◌≡◌, refl, sym, ap, ◌∙◌}
use mathlib.Core.Logic.{◌⊎◌, inl, inr}
use mathlib.Core.Bool.{Bool, true, false, cond, not, ◌&&◌}
use mathlib.Core.List.{List}
use Prim.Native.Nat.{ℕ, ◌+◌, ◌*◌, ◌/◌, ◌%◌, ◌≤◌, ◌<◌}
use native.Mathlib.Omega.{arith}
use native.Mathlib.Nat.{mod-add-div, mod-lt, eq-or-lt_of_le}
use lib.Dec.{T, eqb, leb, leb→le, le→leb, nleb→lt}
use borrow.Author.Tests.{ne_eqb}
use lib.ListN.{length, get_or}
use Rattle.mesh.specs.Mesh.{InRange, inside, nodes, number, place_of}
use Rattle.mesh.proofs.Tests.{T-and, T-eq, T-no, tried, holds_true}
use Rattle.mesh.proofs.Answers.{inside_of, inside_is}
use Rattle.mesh.proofs.Numbers.{room, number_of, number_lt, place_in, place_of_lem}
use Rattle.mesh.specs.declared.Sizes.{Sizes}
use Rattle.mesh.specs.declared.Place.{Place}
use Rattle.touching.specs.Touch.{unsafe, touching}
use Rattle.grids.specs.Grid.{grid_size, unseen, spot, place_at, shade, grid_at, Spot, Beside}
use Rattle.floods.specs.Label.{Untouched, Within}
use Rattle.touching.proofs.Joined.{unsafe_lt}
use Rattle.grids.proofs.Around.{spot_at, at_spot, touch_beside, beside_touch}
use Rattle.grids.proofs.Layouts.{grid_none, grid_at_lem}

-- the spot of node k
abbrev pub at : Sizes → ℕ → ℕ
at S k = spot (place_of S k)

module _ (S : Sizes) (r : InRange S) where
  pub place_at_lem : (k : ℕ) → k < nodes S → place_at (at S k) ≡ place_of S k
  place_at_lem k l = let i = place_in S k l in at_spot (place_of S k) (omega (arith, i.x_in, r.w_hi)) (omega (arith, i.y_in, r.h_hi))

  pub at_lt : (k : ℕ) → k < nodes S → at S k < grid_size
  at_lt k l = let i = place_in S k l in omega (arith, i.x_in, r.w_hi, i.y_in, r.h_hi, i.z_in, r.d_hi)

  pub at_eq : (k m : ℕ) → k < nodes S → m < nodes S → at S k ≡ at S m → k ≡ m
  at_eq k m l h e =
      let f : place_of S k ≡ place_of S m = sym (place_at_lem k l) ∙ ap place_at e ∙ place_at_lem m h in
      sym (number_of S k) ∙ ap (number S) f ∙ number_of S m

  -- ---- the order

  quotient_le : (w a b : ℕ) → 0 < w → a ≤ b → a / w ≤ b / w
  quotient_le w a b hw l = elim (tried (leb (a / w) (b / w))) [
    | inl t ↦ leb→le (a / w) (b / w) t
    | inr t ↦
        let lt = nleb→lt (a / w) (b / w) t in
        absurd (omega (arith, mod-add-div a w, mod-add-div b w, mod-lt b hw, room w lt))
  ]

  -- the row decides before the place in it, and the layer before the row
  in_order : (w h x y z x' y' z' : ℕ) → x < 16 → y < 16 → z ≤ z' → y + h * z ≤ y' + h * z' → x + w * (y + h * z) ≤ x' + w * (y' + h * z')
      → 307 + (x + 17 * y + 289 * z) ≤ 307 + (x' + 17 * y' + 289 * z')
  in_order w h x y z x' y' z' hx hy layer row all = elim (eq-or-lt_of_le layer) [
    | inr lz ↦ omega arith
    | inl ez ↦ elim (eq-or-lt_of_le (rows ez)) [
      | inr ly ↦ omega arith
      | inl ey ↦ omega (arith, ap (λ (n : ℕ). w * (y + h * n)) ez, ap (λ (n : ℕ). w * (n + h * z')) ey)
    ]
  ]
    where
      rows : z ≡ z' → y ≤ y'
      rows ez = omega (arith, ap (λ (n : ℕ). h * n) ez)

  pub at_le : (a b : ℕ) → a < nodes S → b < nodes S → a ≤ b → at S a ≤ at S b
  at_le a b la lb l =
      let i = place_in S a la in
      let row = quotient_le S.w a b (omega (arith, r.w_lo)) l in
      let layer = quotient_le S.h (a / S.w) (b / S.w) (omega (arith, r.h_lo)) row in
      in_order S.w S.h (a % S.w) (a / S.w % S.h) (a / S.w / S.h) (b % S.w) (b / S.w % S.h) (b / S.w / S.h)
      (omega (arith, i.x_in, r.w_hi)) (omega (arith, i.y_in, r.h_hi)) layer
      (rw (mod-add-div (a / S.w) S.h, mod-add-div (b / S.w) S.h) row) (rw (number_of S a, number_of S b) l)

  -- ---- touching

  pub touching_beside : (a b : ℕ) → T (touching S a b) → Beside (at S a) (at S b)
  touching_beside a b t = touch_beside (place_of S a) (place_of S b) t

  pub beside_touching : (a b : ℕ) → a < nodes S → b < nodes S → Beside (at S a) (at S b) → T (touching S a b)
  beside_touching a b la lb =
      let i = place_in S a la in
      let j = place_in S b lb in
      beside_touch (place_of S a) (place_of S b) (omega (arith, i.x_in, r.w_hi)) (omega (arith, i.y_in, r.h_hi))
      (omega (arith, j.x_in, r.w_hi)) (omega (arith, j.y_in, r.h_hi))

  -- ---- the grid of a mesh's mark bytes

  module _ (marks g : List ℕ) (long : length marks ≡ nodes S) (is : (j : ℕ) → get_or g j 0 ≡ grid_at S marks j) where
    of_mark : (k : ℕ) → k < nodes S → get_or g (at S k) 0 ≡ shade (get_or marks k 0)
    of_mark k l = is (at S k) ∙ grid_at_lem S marks (place_of S k) r (place_in S k l) ∙ ap (λ (n : ℕ). shade (get_or marks n 0)) (number_of S k)

    pub unsafe_node : (k : ℕ) → T (unsafe marks k) → k < nodes S
    unsafe_node k u = omega (arith, long, unsafe_lt marks k u)

    pub unsafe_spot : (k : ℕ) → T (unsafe marks k) → get_or g (at S k) 0 ≡ unseen
    unsafe_spot k u = of_mark k (unsafe_node k u)
        ∙ rw (ne_eqb (get_or marks k 0) 0 (λ e. (T-no (eqb (get_or marks k 0) 0)).0 u ((T-eq (get_or marks k 0) 0).1 e)))

    pub safe_spot : (k : ℕ) → k < nodes S → T (not (unsafe marks k)) → get_or g (at S k) 0 ≡ 0
    safe_spot k l s = of_mark k l ∙ empty (eqb (get_or marks k 0) 0) s
      where
        empty : (t : Bool) → T (not (not t)) → cond t 0 unseen ≡ 0
        empty true h = refl
        empty false h = absurd h

    -- a place of the grid is empty, or a node's spot
    of_node : (j : ℕ) → (get_or g j 0 ≡ 0) ⊎ ((k : ℕ) × (k < nodes S) × (j ≡ at S k))
    of_node j = elim (tried (leb 307 j && inside S (place_at j))) [
      | inr t ↦ inl (is j ∙ grid_none S marks j
          (λ h i. (T-no (leb 307 j && inside S (place_at j))).0 t
          ((T-and (leb 307 j) (inside S (place_at j))).1 (le→leb 307 j h, (holds_true (inside S (place_at j))).1 (inside_is S (place_at j) i)))))
      | inl t ↦
          let (a, b) = (T-and (leb 307 j) (inside S (place_at j))).0 t in
          let i = inside_of S (place_at j) ((holds_true (inside S (place_at j))).0 b) in
          inr (number S (place_at j), number_lt S (place_at j) i, sym (ap spot (place_of_lem S (place_at j) i) ∙ spot_at j (leb→le 307 j a)))
    ]

    pub unseen_node : (j : ℕ) → get_or g j 0 ≡ unseen → (k : ℕ) × T (unsafe marks k) × (j ≡ at S k)
    unseen_node j u = elim (of_node j) [
      | inl e ↦ absurd (omega arith)
      | inr (k, l, e) ↦ (k, marked k l (ap (λ (i : ℕ). get_or g i 0) (sym e) ∙ u), e)
    ]
      where
        marked : (k : ℕ) → k < nodes S → get_or g (at S k) 0 ≡ unseen → T (unsafe marks k)
        marked k l e = elim (tried (unsafe marks k)) [ inl t ↦ t | inr t ↦ absurd (omega (arith, safe_spot k l t)) ]

    pub within : Within S.h S.d g
    within j u =
        let (k, t, e) = unseen_node j u in
        let l = unsafe_node k t in
        let p = place_at_lem k l in
        rw (e, ap (λ (p : Place). p.y) p, ap (λ (p : Place). p.z) p) ((place_in S k l).y_in, (place_in S k l).z_in)

    pub untouched : Untouched g
    untouched j = elim (of_node j) [
      | inl e ↦ inl e
      | inr (k, l, e) ↦ elim (tried (unsafe marks k)) [
        | inl t ↦ inr (ap (λ (i : ℕ). get_or g i 0) e ∙ unsafe_spot k t, rw e (a_spot k l))
        | inr t ↦ inl (ap (λ (i : ℕ). get_or g i 0) e ∙ safe_spot k l t)
      ]
    ]
      where
        a_spot : (k : ℕ) → k < nodes S → Spot (at S k)
        a_spot k l =
            let i = place_in S k l in
            let e = place_at_lem k l in
            record {
              inner = omega arith;
              x_in = rw (ap (λ (p : Place). p.x) e) (omega (arith, i.x_in, r.w_hi));
              y_in = rw (ap (λ (p : Place). p.y) e) (omega (arith, i.y_in, r.h_hi));
              z_in = rw (ap (λ (p : Place). p.z) e) (omega (arith, i.z_in, r.d_hi));
            }
