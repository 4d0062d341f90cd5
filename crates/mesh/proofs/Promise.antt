-- The calls on places keep their promise, and nothing else does. Assumes nothing.
use mathlib.Core.Path.{◌≡◌, refl, sym, ap, ◌∙◌, subst}
use mathlib.Core.Logic.{◌↔◌, ◌≢◌}
use mathlib.Core.Bool.{Bool, true, false, cond}
use mathlib.Core.List.{List, [], ◌∷◌}
use Prim.Native.Nat.{ℕ, ◌<◌, ◌≤◌}
use native.Mathlib.Decide.{ℕ_discrete}
use native.Mathlib.Omega.{arith}
use borrow.Author.Tests.{lt-ltb, ltb-true}
use lib.IntN.{ℤ, pos, negsuc, ◌+ℤ◌}
use lib.Dec.{leb, ltb}
use Rattle.mesh.specs.Mesh.{InRange, nodes, inside, Inside, place, number, place_of}
use Rattle.mesh.specs.Steps.{step_of, on_axis, moved, together, next}
use Rattle.mesh.specs.Answers.{answered, answer_no, numbered_value, placed_at, stepped_there, stepped_at, accepted, Answer, ◌and_then◌, check_sizes, check_place, check_node, check_direction, number_answer, place_answer, step_answer}
use Rattle.mesh.specs.Order.{Check, ◌else◌}
use Rattle.mesh.specs.Promise.{NumberPromise, PlacePromise, OneStep, StepPromise}
use Rattle.mesh.specs.declared.Sizes.{Sizes}
use Rattle.mesh.specs.declared.Place.{Place}
use Rattle.mesh.specs.declared.Refusal.TheVariants.{BadNumber}
use Rattle.mesh.proofs.Tests.{T-le, holds_true}
use Rattle.mesh.proofs.Answers.{inside_of, inside_is}
use Rattle.mesh.proofs.Numbers.{number_of, number_eq, place_in}
use Rattle.mesh.proofs.Order.{one_number, ◌decide◌, gives, all_pass, decides_then, decides_by, sizes_decided, node_decided, not_zero}
use Rattle.std.specs.Prelude.{Ok, Err, Some, None, Result, Option}
use Rattle.mesh.specs.declared.Refusal.{Refusal}

-- ---- a step, as the table says it

on_axis_lem : (n : ℕ) (z : ℤ) (k : ℕ) → (on_axis n z ≡ Some k) ↔ ((pos k ≡ z) × (k < n))
on_axis_lem n (pos m) k = go (ltb m n) refl
  where
    go : (t : Bool) → ltb m n ≡ t → (cond t (Some m) None ≡ Some k) ↔ ((pos k ≡ pos m) × (k < n))
    go true e = (λ h. let z : m ≡ k = cc in (ap pos (sym z), subst (λ (k : ℕ). k < n) z (ltb-true m n e)), λ q. let z : k ≡ m = cc in ap Some (sym z))
    go false e = (λ h. let z : ◌≡◌ {A = ℕ} 0 1 = cc in absurd (omega arith), λ q. let z : k ≡ m = cc in let f = lt-ltb m n (subst (λ (k : ℕ). k < n) z q.1) in let x : ◌≡◌ {A = ℕ} 0 1 = cc in absurd (omega arith))
on_axis_lem n (negsuc m) k = (λ h. let z : ◌≡◌ {A = ℕ} 0 1 = cc in absurd (omega arith), λ q. let z : ◌≡◌ {A = ℕ} 0 1 = cc in absurd (omega arith))

all_three : (a b c : Option ℕ) (q : Place) → (together a b c ≡ Some q) ↔ ((a ≡ Some q.x) × (b ≡ Some q.y) × (c ≡ Some q.z))
all_three None b c q = (λ h. let z : ◌≡◌ {A = ℕ} 0 1 = cc in absurd (omega arith), λ w. let h = w.0 in let z : ◌≡◌ {A = ℕ} 0 1 = cc in absurd (omega arith))
all_three (Some x) None c q = (λ h. let z : ◌≡◌ {A = ℕ} 0 1 = cc in absurd (omega arith), λ w. let h = w.1 in let z : ◌≡◌ {A = ℕ} 0 1 = cc in absurd (omega arith))
all_three (Some x) (Some y) None q = (λ h. let z : ◌≡◌ {A = ℕ} 0 1 = cc in absurd (omega arith), λ w. let h = w.2 in let z : ◌≡◌ {A = ℕ} 0 1 = cc in absurd (omega arith))
all_three (Some x) (Some y) (Some z) q = (
  λ h. let e : place x y z ≡ q = cc in (ap (λ (p : Place). Some p.x) e, ap (λ (p : Place). Some p.y) e, ap (λ (p : Place). Some p.z) e),
  λ w.
      let (f, g, h) = w in
      let a : x ≡ q.x = cc in
      let b : y ≡ q.y = cc in
      let c : z ≡ q.z = cc in
      λ i. Some (place (a i) (b i) (c i)),
)

-- a step leads to q exactly if q is in the mesh and one step away
pub step_iff : (S : Sizes) (p : Place) (j : ℕ) (q : Place) → j ≤ 5 → (next S p j ≡ Some q) ↔ (Inside S q × OneStep p j q)
unfolding next
step_iff S p j q l = rw (lt-ltb j 6 (omega arith)) (
  λ h.
      let (a, b, c) = (all_three (moved p.x (step_of j 0) S.w) (moved p.y (step_of j 1) S.h) (moved p.z (step_of j 2) S.d) q).0 h in
      let (e, f) = (on_axis_lem S.w (pos p.x +ℤ step_of j 0) q.x).0 a in
      let (g, k) = (on_axis_lem S.h (pos p.y +ℤ step_of j 1) q.y).0 b in
      let (m, n) = (on_axis_lem S.d (pos p.z +ℤ step_of j 2) q.z).0 c in
      (record { x_in = f; y_in = k; z_in = n }, record { on_x = e; on_y = g; on_z = m }),
  λ w.
      let (i, o) = w in
      (all_three (moved p.x (step_of j 0) S.w) (moved p.y (step_of j 1) S.h) (moved p.z (step_of j 2) S.d) q).1 (
        (on_axis_lem S.w (pos p.x +ℤ step_of j 0) q.x).1 (o.on_x, i.x_in),
        (on_axis_lem S.h (pos p.y +ℤ step_of j 1) q.y).1 (o.on_y, i.y_in),
        (on_axis_lem S.d (pos p.z +ℤ step_of j 2) q.z).1 (o.on_z, i.z_in),
      ),
)

-- ---- the calls

place_decided : (S : Sizes) (p : Place) → Inside S p else 5 ∷ [] decide check_place S p
place_decided S p = decides_by (inside S p) BadNumber (λ t. inside_of S p ((holds_true (inside S p)).0 t), λ i. (holds_true (inside S p)).1 (inside_is S p i))

direction_decided : (j : ℕ) → (j ≤ 5) else 5 ∷ [] decide check_direction j
direction_decided j = decides_by (leb j 5) BadNumber (T-le j 5)

module _ (S : Sizes) (p : Place) where
  abbrev place_checks : List Check
  place_checks = InRange S else 1 ∷ Inside S p else 5 ∷ []

  in_mesh : place_checks decide (check_sizes S and_then check_place S p)
  in_mesh = decides_then (InRange S else 1 ∷ []) (Inside S p else 5 ∷ []) (check_sizes S) (check_place S p) (sizes_decided S) (place_decided S p)

  pub number_promise : NumberPromise S p (answer_no (number_answer S p)) (numbered_value (number_answer S p))
  unfolding number_answer
  number_promise = go (check_sizes S and_then check_place S p) in_mesh
    where
      go : (a : Answer) → place_checks decide a → NumberPromise S p (answer_no (answered a (number S p))) (numbered_value (answered a (number S p)))
      go (Ok _) d = record { order = gives place_checks accepted d; numbered = λ g. refl; nothing = λ n. absurd (n refl) }
      go (Err r) d = record { order = gives place_checks (Err r) d; numbered = λ g. absurd (not_zero r g); nothing = λ n. refl }

  module _ (j : ℕ) where
    abbrev step_checks : List Check
    step_checks = InRange S else 1 ∷ Inside S p else 5 ∷ (j ≤ 5) else 5 ∷ []

    abbrev promised : Result (Option Place) Refusal → Type 0
    promised a = StepPromise S p j (answer_no a) (stepped_there a) (stepped_at a).x (stepped_at a).y (stepped_at a).z

    pub step_promise : promised (step_answer S p j)
    unfolding step_answer
    step_promise = go (check_sizes S and_then check_place S p and_then check_direction j)
        (decides_then place_checks ((j ≤ 5) else 5 ∷ []) (check_sizes S and_then check_place S p) (check_direction j) in_mesh (direction_decided j))
        (next S p j) refl
      where
        go : (a : Answer) → step_checks decide a → (n : Option Place) → next S p j ≡ n → promised (answered a n)
        go (Ok _) d (Some q) e = record {
          order = gives step_checks accepted d;
          led = λ _ _. (step_iff S p j q ((all_pass step_checks accepted d).0 refl).1.1.0).0 e;
          ends = λ _ n. absurd (n refl);
          nowhere = λ n. absurd (n refl);
          nothing = λ n. absurd (n refl);
        }
        go (Ok _) d None e = record {
          order = gives step_checks accepted d;
          led = λ _ h. absurd (omega arith);
          ends = λ _ _ q i o.
              let f = (step_iff S p j q ((all_pass step_checks accepted d).0 refl).1.1.0).1 (i, o) in
              let z : ◌≡◌ {A = ℕ} 0 1 = cc in
              absurd (omega arith);
          nowhere = λ n. (refl, refl, refl, refl);
          nothing = λ n. (refl, refl, refl, refl);
        }
        go (Err r) d n e = record {
          order = gives step_checks (Err r) d;
          led = λ g _. absurd (not_zero r g);
          ends = λ g _. absurd (not_zero r g);
          nowhere = λ n. (refl, refl, refl, refl);
          nothing = λ n. (refl, refl, refl, refl);
        }

module _ (S : Sizes) (k : ℕ) where
  abbrev node_checks : List Check
  node_checks = InRange S else 1 ∷ (k < nodes S) else 5 ∷ []

  abbrev found : Result Place Refusal → Type 0
  found a = PlacePromise S k (answer_no a) (placed_at a).x (placed_at a).y (placed_at a).z

  pub place_promise : found (place_answer S k)
  unfolding place_answer
  place_promise = go (check_sizes S and_then check_node S k)
      (decides_then (InRange S else 1 ∷ []) ((k < nodes S) else 5 ∷ []) (check_sizes S) (check_node S k) (sizes_decided S) (node_decided S k))
    where
      go : (a : Answer) → node_checks decide a → found (answered a (place_of S k))
      go (Ok _) d = record {
        order = gives node_checks accepted d;
        placed = λ g. (place_in S k ((all_pass node_checks accepted d).0 refl).1.0, number_of S k);
        nothing = λ n. absurd (n refl);
      }
      go (Err r) d = record { order = gives node_checks (Err r) d; placed = λ g. absurd (not_zero r g); nothing = λ n. (refl, refl, refl) }

-- ---- and nothing else keeps it

pub number_only : (S : Sizes) (p : Place) (n m v w : ℕ) → NumberPromise S p n v → NumberPromise S p m w → (n ≡ m) × (v ≡ w)
number_only S p n m v w A B =
    let same : n ≡ m = one_number (place_checks S p) n m A.order B.order in (
      same,
      elim (ℕ_discrete n 0) [
        | yes e ↦ A.numbered e ∙ sym (B.numbered (sym same ∙ e))
        | no e ↦ A.nothing e ∙ sym (B.nothing (λ h. e (same ∙ h)))
      ],
    )

pub place_only : (S : Sizes) (k n m x y z x' y' z' : ℕ) → PlacePromise S k n x y z → PlacePromise S k m x' y' z' → (n ≡ m) × (place x y z ≡ place x' y' z')
place_only S k n m x y z x' y' z' A B =
    let same : n ≡ m = one_number (node_checks S k) n m A.order B.order in (
      same,
      elim (ℕ_discrete n 0) [
        | yes e ↦
            let (i, f) = A.placed e in
            let (j, g) = B.placed (sym same ∙ e) in
            number_eq S (place x y z) (place x' y' z') i j (f ∙ sym g)
        | no e ↦
            let (a, b, c) = A.nothing e in
            let (a', b', c') = B.nothing (λ h. e (same ∙ h)) in
            λ i. place ((a ∙ sym a') i) ((b ∙ sym b') i) ((c ∙ sym c') i)
      ],
    )

-- two places that one step leads to are one
one_step : (p : Place) (j : ℕ) (q r : Place) → OneStep p j q → OneStep p j r → q ≡ r
one_step p j q r A B =
    let x : pos q.x ≡ pos r.x = A.on_x ∙ sym B.on_x in
    let y : pos q.y ≡ pos r.y = A.on_y ∙ sym B.on_y in
    let z : pos q.z ≡ pos r.z = A.on_z ∙ sym B.on_z in
    let a : q.x ≡ r.x = cc in
    let b : q.y ≡ r.y = cc in
    let c : q.z ≡ r.z = cc in
    λ i. place (a i) (b i) (c i)

pub step_only : (S : Sizes) (p : Place) (j n m t u x y z x' y' z' : ℕ) → StepPromise S p j n t x y z → StepPromise S p j m u x' y' z'
    → (n ≡ m) × (t ≡ u) × (place x y z ≡ place x' y' z')
step_only S p j n m t u x y z x' y' z' A B =
    let same : n ≡ m = one_number (step_checks S p j) n m A.order B.order in
    let (e, f) = go same (ℕ_discrete n 0) (ℕ_discrete t 1) (ℕ_discrete u 1) in
    (same, e, f)
  where
    nowhere : t ≢ 1 → u ≢ 1 → (t ≡ u) × (place x y z ≡ place x' y' z')
    nowhere f g =
        let (e, a, b, c) = A.nowhere f in
        let (e', a', b', c') = B.nowhere g in
        (e ∙ sym e', λ i. place ((a ∙ sym a') i) ((b ∙ sym b') i) ((c ∙ sym c') i))

    go : n ≡ m → Dec (n ≡ 0) → Dec (t ≡ 1) → Dec (u ≡ 1) → (t ≡ u) × (place x y z ≡ place x' y' z')
    go same (no e) d d' = nowhere (λ h. let f = (A.nothing e).0 in omega arith) (λ h. let f = (B.nothing (λ z. e (same ∙ z))).0 in omega arith)
    go same (yes e) (yes f) (yes g) = (f ∙ sym g, one_step p j (place x y z) (place x' y' z') (A.led e f).1 (B.led (sym same ∙ e) g).1)
    go same (yes e) (yes f) (no g) = let (i, o) = A.led e f in absurd (B.ends (sym same ∙ e) g (place x y z) i o)
    go same (yes e) (no f) (yes g) = let (i, o) = B.led (sym same ∙ e) g in absurd (A.ends e f (place x' y' z') i o)
    go same (yes e) (no f) (no g) = nowhere f g
