-- Any two outcomes that a promise of routes allows are one: what it says fixes every number and every lent byte. Assumes nothing.
use mathlib.Core.Path.{◌≡◌, sym, ap, ◌∙◌}
use mathlib.Core.Logic.{◌↔◌}
use mathlib.Core.List.{List, [], ◌∷◌, ◌++◌}
use Prim.Native.Nat.{ℕ, zero, suc, ◌+◌, ◌/◌, ◌%◌, ◌^◌, ◌<◌, ◌≤◌}
use native.Mathlib.Nat.{pow-succ', div-div-eq-div-mul}
use native.Mathlib.Omega.{arith}
use native.Mathlib.Decide.{ℕ_discrete}
use lib.Dec.{eqb}
use lib.ListN.{length, get_or, drop}
use lib.Seq.{ext_get_or}
use Rattle.mesh.specs.Tools.{count}
use Rattle.mesh.specs.Mesh.{nodes, place_of}
use Rattle.mesh.specs.Cells.{map_of}
use Rattle.mesh.specs.Order.{◌else◌}
use Rattle.mesh.specs.declared.Sizes.{Sizes}
use Rattle.mesh.proofs.Order.{one_number, bad_one}
use Rattle.paths.specs.Differences.{hops}
use Rattle.paths.specs.Paths.{Leads}
use Rattle.paths.specs.Promise.{Begins, end_checks, path_checks, VerdictPromise, RoutePromise, ReachedPromise}
use Rattle.paths.proofs.Direct.{one_route}

-- ---- numbers told by their bits

-- two bits that are 1 in the same case are one
one_bit : (P : Type 0) (a b : ℕ) → a ≤ 1 → b ≤ 1 → (a ≡ 1) ↔ P → (b ≡ 1) ↔ P → a ≡ b
one_bit P a b h k f g = elim (ℕ_discrete a 1) [
  | yes e ↦ e ∙ sym (g.1 (f.0 e))
  | no e ↦ elim (ℕ_discrete b 1) [ yes d ↦ absurd (e (f.1 (g.0 d))) | no d ↦ omega arith ]
]

-- two numbers of n bits are one if all their bits are
bits_one : (n a b : ℕ) → a < 2 ^ n → b < 2 ^ n → ((j : ℕ) → j < n → a / 2 ^ j % 2 ≡ b / 2 ^ j % 2) → a ≡ b
bits_one zero a b h k f = omega arith
bits_one (suc n) a b h k f =
    let last : a / 1 % 2 ≡ b / 1 % 2 = f 0 (omega arith) in
    let less = pow-succ' 2 n in
    let rest = bits_one n (a / 2) (b / 2) (omega arith) (omega arith) λ j l. sym (after a j) ∙ f (suc j) (omega arith) ∙ after b j in
    omega arith
  where
    after : (a j : ℕ) → a / 2 ^ suc j % 2 ≡ a / 2 / 2 ^ j % 2
    after a j = ap (λ (x : ℕ). x % 2) (ap (λ (x : ℕ). a / x) (pow-succ' 2 j) ∙ sym (div-div-eq-div-mul a 2 (2 ^ j)))

-- two sets of directions with the same members are one
set_one : (P : ℕ → Type 0) (o p : ℕ) → (o < 64) × ((j : ℕ) → j < 6 → (o / 2 ^ j % 2 ≡ 1) ↔ P j)
    → (p < 64) × ((j : ℕ) → j < 6 → (p / 2 ^ j % 2 ≡ 1) ↔ P j) → o ≡ p
set_one P o p (h, f) (k, g) = bits_one 6 o p h k λ j l.
    let a = o / 2 ^ j in
    let b = p / 2 ^ j in
    one_bit (P j) (a % 2) (b % 2) (omega arith) (omega arith) (f j l) (g j l)

-- two lists of n bytes that are 1 in the same places, and 0 elsewhere, are one
bytes_one : (P : ℕ → Type 0) (n : ℕ) (l r : List ℕ) → length l ≡ n → length r ≡ n
    → ((k : ℕ) → k < n → (get_or l k 0 ≤ 1) × ((get_or l k 0 ≡ 1) ↔ P k))
    → ((k : ℕ) → k < n → (get_or r k 0 ≤ 1) × ((get_or r k 0 ≡ 1) ↔ P k)) → l ≡ r
bytes_one P n l r x y f g = ext_get_or 0 l r (x ∙ sym y) λ k h.
    let (a, p) = f k (omega arith) in
    let (b, q) = g k (omega arith) in
    one_bit (P k) (get_or l k 0) (get_or r k 0) a b p q

-- ---- the three calls

-- two values are as two others if all are as the same
both : {A B : Type 0} {x y z : A} {u v w : B} → (x ≡ z) × (u ≡ w) → (y ≡ z) × (v ≡ w) → (x ≡ y) × (u ≡ v)
both (a, b) (c, d) = (a ∙ sym c, b ∙ sym d)

module _ (S : Sizes) (cells : List ℕ) (s e : ℕ) where
  pub verdict_only : (n m b c h k o p : ℕ) → VerdictPromise S cells s e n b h o → VerdictPromise S cells s e m c k p
      → (n ≡ m) × (b ≡ c) × (h ≡ k) × (o ≡ p)
  verdict_only n m b c h k o p A B =
      let same : n ≡ m = one_number (path_checks S cells s e) n m A.order B.order in
      let values : (h ≡ k) × (o ≡ p) = elim (ℕ_discrete n 0) [
        | yes z ↦
            let y = sym same ∙ z in
            ((A.far z).0 ∙ sym (B.far y).0, set_one (Begins S cells s e s) o p (A.offers z) (B.offers y))
        | no z ↦ both (A.nothing z) (B.nothing λ y. z (same ∙ y))
      ] in
      (same, bad_one S cells n b c A.names_bad (rw same B.names_bad), values.0, values.1)

  pub route_only : (old : List ℕ) (n m b c h k : ℕ) (new other : List ℕ)
      → RoutePromise S cells s e old n b h new → RoutePromise S cells s e old m c k other → (n ≡ m) × (b ≡ c) × (h ≡ k) × (new ≡ other)
  route_only old n m b c h k new other A B =
      let checks = path_checks S cells s e ++ (hops (place_of S s) (place_of S e) + 1 ≤ length old) else 3 ∷ [] in
      let same : n ≡ m = one_number checks n m A.order B.order in
      let values : (h ≡ k) × (new ≡ other) = elim (ℕ_discrete n 0) [
        | yes z ↦
            let q = (A.granted.0 z).0 in
            let (x, (l, _, f, p, t)) = A.written z in
            let (w, (r, _, g, p', t')) = B.written (sym same ∙ z) in
            let long : h ≡ k = x ∙ sym w in
            let nodes : l ≡ r = one_route S cells s e q.start_in q.end_in l r p t p' t' in
            (long, f ∙ (λ i. nodes i ++ drop (long i) old) ∙ sym g)
        | no z ↦ both (A.nothing z) (B.nothing λ y. z (same ∙ y))
      ] in
      (same, bad_one S cells n b c A.names_bad (rw same B.names_bad), values.0, values.1)

  pub reached_only : (old : List ℕ) (n m b c h k : ℕ) (new other : List ℕ)
      → ReachedPromise S cells s e old n b h new → ReachedPromise S cells s e old m c k other → (n ≡ m) × (b ≡ c) × (h ≡ k) × (new ≡ other)
  reached_only old n m b c h k new other A B =
      let same : n ≡ m = one_number (end_checks S cells s e ++ (nodes S ≤ length old) else 3 ∷ []) n m A.order B.order in
      let values : (h ≡ k) × (new ≡ other) = elim (ℕ_discrete n 0) [
        | yes z ↦
            let (l, x, f, each, u) = A.written z in
            let (r, w, g, each', v) = B.written (sym same ∙ z) in
            let reached : ℕ → Type 0 = λ i. (p : List ℕ) × Leads (map_of S cells) (place_of S e) (place_of S s) (place_of S i) p in
            let bytes : l ≡ r = bytes_one reached (nodes S) l r x w each each' in
            (u ∙ ap (λ (l : List ℕ). count (nodes S) λ i. eqb (get_or l i 0) 1) bytes ∙ sym v, f ∙ ap (λ (l : List ℕ). l ++ drop (nodes S) old) bytes ∙ sym g)
        | no z ↦ both (A.nothing z) (B.nothing λ y. z (same ∙ y))
      ] in
      (same, bad_one S cells n b c A.names_bad (rw same B.names_bad), values.0, values.1)
