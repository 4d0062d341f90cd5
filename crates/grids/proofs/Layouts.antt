-- The mesh in the grid, row after row: what lies between two rows, and between two layers, is no place of the mesh. Assumes nothing.
use mathlib.Core.Path.{◌≡◌, refl, sym, ap, ◌∙◌, subst}
use mathlib.Core.Logic.{inl, inr}
use mathlib.Core.Bool.{Bool, cond, ◌&&◌}
use mathlib.Core.List.{List}
use Prim.Native.Nat.{ℕ, zero, suc, ◌+◌, ◌-◌, ◌*◌, ◌≤◌, ◌<◌}
use native.Mathlib.Omega.{arith}
use lib.Dec.{leb, le→leb, leb→le, ltb, ltb→lt, nltb→le, not_T}
use lib.ListN.{length, get_or, replicate, length-replicate, get_or-eq_default}
use lib.Seq.{ext_get_or}
use Rattle.mesh.specs.Tools.{table}
use Rattle.mesh.specs.Mesh.{place, InRange, Inside, inside, nodes, number, place_of}
use Rattle.mesh.specs.Fill.{Filled}
use Rattle.mesh.proofs.Tests.{T-and, tried, holds_true, cond_true, cond_false}
use Rattle.mesh.proofs.Tables.{length_table, get_d_table}
use Rattle.mesh.proofs.Fill.{front}
use Rattle.mesh.proofs.Answers.{inside_of, inside_is}
use Rattle.mesh.proofs.Numbers.{place_of_lem, row_end}
use Rattle.mesh.specs.declared.Sizes.{Sizes}
use Rattle.mesh.specs.declared.Place.{Place}
use Rattle.grids.specs.Grid.{grid_size, spot, place_at, shade, grid_at, grid_of}
use Rattle.grids.specs.Layout.{Laid, Copied, copied}
use Rattle.grids.proofs.Around.{at_spot}

-- ---- what an empty list holds

pub blank_long : (n : ℕ) (l : List ℕ) → l ≡ replicate n 0 → length l ≡ n
blank_long n l e = ap length e ∙ length-replicate {A = ℕ} n 0

pub blank_at : (n : ℕ) (l : List ℕ) → l ≡ replicate n 0 → (j : ℕ) → get_or l j 0 ≡ 0
blank_at n l e j = ap (λ (k : List ℕ). get_or k j 0) e ∙ zeros n j
  where
    zeros : (n j : ℕ) → ◌≡◌ {A = ℕ} (get_or (replicate n 0) j 0) 0
    zeros zero j = refl
    zeros (suc n) zero = refl
    zeros (suc n) (suc j) = zeros n j

-- ---- what the grid holds

module _ (S : Sizes) (marks : List ℕ) where
  abbrev there : ℕ → Bool
  there j = leb 307 j && inside S (place_at j)

  pub grid_none : (j : ℕ) → (307 ≤ j → Inside S (place_at j) → ⊥) → grid_at S marks j ≡ 0
  unfolding grid_at
  grid_none j h = cond_false (there j) (shade (get_or marks (number S (place_at j)) 0)) 0 (not_T (there j) λ t.
      let (a, b) = (T-and (leb 307 j) (inside S (place_at j))).0 t in
      h (leb→le 307 j a) (inside_of S (place_at j) ((holds_true (inside S (place_at j))).0 b)))

  pub grid_at_lem : (p : Place) → InRange S → Inside S p → grid_at S marks (spot p) ≡ shade (get_or marks (number S p) 0)
  unfolding grid_at
  grid_at_lem p r i =
      let e : place_at (spot p) ≡ p = at_spot p (omega (arith, i.x_in, r.w_hi)) (omega (arith, i.y_in, r.h_hi)) in
      subst (λ (q : Place). cond (leb 307 (spot p) && inside S q) (shade (get_or marks (number S q) 0)) 0 ≡ shade (get_or marks (number S p) 0)) (sym e)
      (cond_true (leb 307 (spot p) && inside S p) (shade (get_or marks (number S p) 0)) 0
      ((T-and (leb 307 (spot p)) (inside S p)).1 (le→leb 307 (spot p) (omega arith), (holds_true (inside S p)).1 (inside_is S p i))))

  pub laid_none : (g : List ℕ) → length g ≡ grid_size → ((j : ℕ) → get_or g j 0 ≡ 0) → Laid S marks 307 g
  laid_none g l h = record { long = l; done = λ j k. h j ∙ sym (grid_none j (λ m _. omega arith)); empty = λ j _. h j }

  -- read anywhere: past its end there is no place of the mesh
  pub of_grid : InRange S → (j : ℕ) → get_or (grid_of S marks) j 0 ≡ grid_at S marks j
  of_grid r j = elim (tried (ltb j grid_size)) [
    | inl t ↦ get_d_table (grid_at S marks) grid_size j 0 (ltb→lt j grid_size t)
    | inr t ↦
        let h = nltb→le j grid_size t in
        get_or-eq_default (grid_of S marks) 0 (omega (arith, length_table (grid_at S marks) grid_size))
        ∙ sym (grid_none j λ m i. omega (arith, i.z_in, r.d_hi))
  ]

  module _ (r : InRange S) (g : List ℕ) where
    -- further on, where the mesh has no place between
    further : (n m : ℕ) → n ≤ m → Laid S marks n g → ((j : ℕ) → n ≤ j → j < m → grid_at S marks j ≡ 0) → Laid S marks m g
    further n m l L none =
        record {
          long = L.long;
          done = λ j h. elim (tried (ltb j n)) [
            | inl t ↦ L.done j (ltb→lt j n t)
            | inr t ↦ L.empty j (nltb→le j n t) ∙ sym (none j (nltb→le j n t) h)
          ];
          empty = λ j h. L.empty j (omega arith);
        }

    pub layer_laid : (z : ℕ) → Laid S marks (307 + (17 * S.h + 289 * z)) g → Laid S marks (307 + 289 * (z + 1)) g
    layer_laid z L = further (307 + (17 * S.h + 289 * z)) (307 + 289 * (z + 1)) (omega (arith, r.h_hi)) L
        λ j lo hi. grid_none j λ h i. omega (arith, i.y_in)

    pub all_laid : Laid S marks (307 + 289 * S.d) g → g ≡ grid_of S marks
    all_laid L =
        let M = further (307 + 289 * S.d) grid_size (omega (arith, r.d_hi)) L (λ j lo hi. grid_none j λ m i. omega (arith, i.z_in)) in
        ext_get_or 0 g (grid_of S marks) (L.long ∙ sym (length_table (grid_at S marks) grid_size))
        (λ j l. let h : j < grid_size = omega (arith, L.long) in M.done j h ∙ sym (get_d_table (grid_at S marks) grid_size j 0 h))

    -- a row more, and what lies between it and the next
    pub row_laid : (y z k : ℕ) (new : List ℕ) → y < S.h → z < S.d → k ≡ S.w * (y + S.h * z) → Laid S marks (307 + (17 * y + 289 * z)) g
        → Filled (λ x. 307 + (17 * y + 289 * z) + x) (λ x. shade (get_or marks (k + x) 0)) g new S.w
        → Laid S marks (307 + (17 * (y + 1) + 289 * z)) new
    row_laid y z k new hy hz ek L F =
        record {
          long = F.size ∙ L.long;
          done = λ j h. elim (tried (ltb j from)) [
            | inl t ↦ let lt = ltb→lt j from t in F.kept j (λ x l e. omega arith) ∙ L.done j lt
            | inr t ↦ let ge = nltb→le j from t in subst (λ (i : ℕ). get_or new i 0 ≡ grid_at S marks i) (omega arith) (in_row (j - from) (omega arith))
          ];
          empty = λ j h. F.kept j (λ x l e. omega (arith, r.w_hi)) ∙ L.empty j (omega arith);
        }
      where
        from : ℕ
        from = 307 + (17 * y + 289 * z)

        in_row : (x : ℕ) → x < 17 → get_or new (307 + (17 * y + 289 * z) + x) 0 ≡ grid_at S marks (307 + (17 * y + 289 * z) + x)
        in_row x h = elim (tried (ltb x S.w)) [
          | inl t ↦
              let lt = ltb→lt x S.w t in
              let e : spot (place x y z) ≡ 307 + (17 * y + 289 * z) + x = omega arith in
              let n : k + x ≡ number S (place x y z) = omega arith in
              F.at x lt
              ∙ ap (λ (i : ℕ). shade (get_or marks i 0)) n
              ∙ sym (ap (grid_at S marks) (sym e) ∙ grid_at_lem (place x y z) r (record { x_in = lt; y_in = hy; z_in = hz }))
          | inr t ↦
              let ge = nltb→le x S.w t in
              F.kept (307 + (17 * y + 289 * z) + x) (λ i l e. omega arith)
              ∙ L.empty (307 + (17 * y + 289 * z) + x) (omega arith)
              ∙ sym (grid_none (307 + (17 * y + 289 * z) + x) λ m i. omega (arith, i.x_in))
        ]

-- ---- back again: node k has the number at its spot

module _ (S : Sizes) (g old new : List ℕ) where
  pub all_copied : nodes S ≤ length old → Copied S g old (nodes S) new → new ≡ copied S g old
  all_copied room C =
      let f : ℕ → ℕ = λ k. get_or g (spot (place_of S k)) 0 in
      front (table f (nodes S)) old new (nodes S) (length_table f (nodes S)) room C.long
      (λ k l. C.done k l ∙ sym (get_d_table f (nodes S) k 0 l)) C.rest

  pub row_copied : (y z k : ℕ) (mid : List ℕ) → y < S.h → z < S.d → k ≡ S.w * (y + S.h * z) → Copied S g old (S.w * (y + S.h * z)) mid
      → Filled (λ x. k + x) (λ x. get_or g (307 + (17 * y + 289 * z) + x) 0) mid new S.w → Copied S g old (S.w * (y + 1 + S.h * z)) new
  row_copied y z k mid hy hz ek C F =
      let e = row_end S.w S.h y z in
      record {
        long = F.size ∙ C.long;
        done = λ i h. elim (tried (ltb i k)) [
          | inl t ↦ let lt = ltb→lt i k t in F.kept i (λ x l q. omega arith) ∙ C.done i (omega arith)
          | inr t ↦ let ge = nltb→le i k t in
              subst (λ (n : ℕ). get_or new n 0 ≡ get_or g (spot (place_of S n)) 0) (omega arith) (in_row (i - k) (omega arith))
        ];
        rest = λ i h. F.kept i (λ x l q. omega arith) ∙ C.rest i (omega arith);
      }
    where
      in_row : (x : ℕ) → x < S.w → get_or new (k + x) 0 ≡ get_or g (spot (place_of S (k + x))) 0
      in_row x h =
          let n : k + x ≡ number S (place x y z) = omega arith in
          let e : place_of S (k + x) ≡ place x y z = ap (place_of S) n ∙ place_of_lem S (place x y z) (record { x_in = h; y_in = hy; z_in = hz }) in
          let s : 307 + (17 * y + 289 * z) + x ≡ spot (place x y z) = omega arith in
          F.at x h ∙ ap (λ (j : ℕ). get_or g j 0) (s ∙ ap spot (sym e))
