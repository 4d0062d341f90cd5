-- Tests as statements: `simp tests at t` takes a test apart, `simp tests p` proves one. Assumes nothing.
use mathlib.Core.Path.{◌≡◌, refl, sym, ap₂, subst}
use mathlib.Core.Logic.{◌↔◌, ◌⊎◌, inl, inr}
use mathlib.Core.Bool.{Bool, true, false, not, ◌&&◌, ◌||◌, cond}
use Prim.Native.Nat.{ℕ, zero, suc, ◌+◌, ◌≤◌, ◌<◌}
use lib.Dec.{T, eqb, eqb→eq, eqb_refl, leb, leb→le, le→leb, ltb, ltb→lt, lt→ltb}
use native.Mathlib.Omega.{arith}
use native.Mathlib.Numerals.{add-one}
use native.Mathlib.Nat.{eq-or-lt_of_le, le_of_suc-le-suc}
use Rattle.mesh.specs.Tools.{implies, all, any}
use Rattle.mesh.specs.Mesh.{Axis, X, Y, Z, every}

pub T-and : (a b : Bool) → T (a && b) ↔ (T a × T b)
T-and true b = (λ t. (tt, t), λ p. p.1)
T-and false b = (λ t. absurd t, λ p. p.0)

pub T-or : (a b : Bool) → T (a || b) ↔ (T a ⊎ T b)
T-or true b = (λ t. inl tt, λ p. tt)
T-or false b = (λ t. inr t, λ p. elim p [ inl x ↦ absurd x | inr x ↦ x ])

pub T-implies : (a b : Bool) → T (implies a b) ↔ (T a → T b)
T-implies true b = (λ t x. t, λ f. f tt)
T-implies false b = (λ t x. absurd x, λ f. tt)

pub T-no : (a : Bool) → T (not a) ↔ (T a → ⊥)
T-no true = (λ t x. t, λ f. f tt)
T-no false = (λ t x. x, λ f. tt)

pub T-eq : (a b : ℕ) → T (eqb a b) ↔ (a ≡ b)
T-eq a b = (eqb→eq a b, λ e. subst (λ x. T (eqb a x)) e (eqb_refl a))

pub T-le : (a b : ℕ) → T (leb a b) ↔ (a ≤ b)
T-le a b = (leb→le a b, le→leb a b)

pub T-lt : (a b : ℕ) → T (ltb a b) ↔ (a < b)
T-lt a b = (ltb→lt a b, lt→ltb a b)

pub T-cond : (b x y : Bool) → T (cond b x y) ↔ ((T b → T x) × (T (not b) → T y))
T-cond true x y = (λ t. (λ _. t, λ e. absurd e), λ p. p.0 tt)
T-cond false x y = (λ t. (λ e. absurd e, λ _. t), λ p. p.1 tt)

pub T-every : (t : Axis → Bool) → T (every t) ↔ ((a : Axis) → T (t a))
T-every t = (
  λ h. let q : (T (t X) × T (t Y)) × T (t Z) = simp T-and at h in elim [ X ↦ q.0.0 | Y ↦ q.0.1 | Z ↦ q.1 ],
  λ f. simp T-and ((f X, f Y), f Z),
)

pub T-all : (n : ℕ) (p : ℕ → Bool) → T (all n p) ↔ ((k : ℕ) → k < n → T (p k))
unfolding all
T-all zero p = (λ t k l. absurd (omega arith), λ f. tt)
T-all (suc n) p = (
  λ t k l.
      let q = (T-and (p n) (all n p)).0 t in
      elim (eq-or-lt_of_le (le_of_suc-le-suc l)) [ inl e ↦ rw e q.0 | inr h ↦ (T-all n p).0 q.1 k h ],
  λ f. (T-and (p n) (all n p)).1 (f n (omega arith), (T-all n p).1 (λ k l. f k (omega arith))),
)

pub T-any : (n : ℕ) (p : ℕ → Bool) → T (any n p) ↔ ((k : ℕ) × (k < n) × T (p k))
unfolding any
T-any zero p = (λ t. absurd t, λ f. absurd (omega (arith, f.1)))
T-any (suc n) p = (
  λ t. elim ((T-or (p n) (any n p)).0 t) [
    | inl h ↦ (n, omega arith, h)
    | inr h ↦ let (k, l, x) = (T-any n p).0 h in (k, omega arith, x)
  ],
  λ f.
      let (k, l, x) = f in
      (T-or (p n) (any n p)).1 (elim (eq-or-lt_of_le (le_of_suc-le-suc l)) [ inl e ↦ inl (rw (← e) x) | inr h ↦ inr ((T-any n p).1 (k, h, x)) ]),
)

pub ruleset tests = (T-every, T-all, T-and, T-implies, T-eq, T-lt, T-le)

pub tried : (b : Bool) → T b ⊎ T (not b)
tried true = inl tt
tried false = inr tt

pub holds_true : (b : Bool) → T b ↔ (b ≡ true)
holds_true true = (λ t. refl, λ e. tt)
holds_true false = (λ t. absurd t, λ e. subst (λ x. T x) (sym e) tt)

pub bool_ext : (a b : Bool) → (T a → T b) → (T b → T a) → a ≡ b
bool_ext true true f g = refl
bool_ext true false f g = absurd (f tt)
bool_ext false true f g = absurd (g tt)
bool_ext false false f g = refl

-- one more, as a loop counts; and one that fails
pub all_more : (n : ℕ) (p : ℕ → Bool) → all (n + 1) p ≡ p n && all n p
unfolding all
all_more n p = rw add-one

pub any_more : (n : ℕ) (p : ℕ → Bool) → any (n + 1) p ≡ p n || any n p
unfolding any
any_more n p = rw add-one

pub all_fails : (n : ℕ) (p : ℕ → Bool) (k : ℕ) → k < n → p k ≡ false → all n p ≡ false
all_fails n p k l e = bool_ext (all n p) false (λ t. subst (λ (b : Bool). T b) e ((T-all n p).0 t k l)) (λ t. absurd t)

pub all_same : (n : ℕ) (p q : ℕ → Bool) → ((k : ℕ) → k < n → p k ≡ q k) → all n p ≡ all n q
unfolding all
all_same zero p q e = refl
all_same (suc n) p q e = ap₂ ◌&&◌ (e n (omega arith)) (all_same n p q λ k l. e k (omega arith))

module _ {A : Type 0} where
  pub cond_true : (b : Bool) (x y : A) → T b → cond b x y ≡ x
  cond_true true x y t = refl
  cond_true false x y t = absurd t

  pub cond_false : (b : Bool) (x y : A) → T (not b) → cond b x y ≡ y
  cond_false true x y t = absurd t
  cond_false false x y t = refl
