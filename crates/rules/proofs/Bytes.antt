-- Mark bytes and words: what a byte says of the two marks, and which bytes there are. Assumes nothing.
use mathlib.Core.Path.{◌≡◌, refl, sym, ap, ◌∙◌, subst, fun_ext}
use mathlib.Core.Logic.{◌↔◌, ◌⊎◌, inl, inr}
use mathlib.Core.Bool.{Bool, true, false, cond, not, ◌||◌}
use Prim.Native.Nat.{ℕ}
use lib.Dec.{T, eqb}
use Rattle.mesh.specs.Mesh.{Inside}
use Rattle.mesh.specs.Cells.{Map, faulty, works}
use Rattle.rules.specs.Marks.{Kind, useless, cant_reach, heading, holds, byte_of, has, is_word, mark_at, unsafe_at, byte_blocks}
use Rattle.mesh.proofs.Tests.{T-or, T-eq, T-no, tried, bool_ext, cond_false}
use Rattle.rules.proofs.Marks.{useless_iff}
use Rattle.mesh.specs.declared.Place.{Place}

-- ---- words

-- two marks, each held or not, are four cases
abbrev pub both : Bool → Bool → Kind → Bool
both u c useless = u
both u c cant_reach = c

pub mark_sets : (P : (Kind → Bool) → Type 0) → P (both false false) → P (both true false) → P (both false true) → P (both true true)
    → (h : Kind → Bool) → P h
mark_sets P n u c b h = subst P (fun_ext (elim [ useless ↦ refl | cant_reach ↦ refl ])) (go (h useless) (h cant_reach))
  where
    go : (x y : Bool) → P (both x y)
    go false false = n
    go true false = u
    go false true = c
    go true true = b

-- "The two marks are independent": a byte made of two marks holds those two.
pub has_byte : (h : Kind → Bool) (k : Kind) → has (byte_of h) k ≡ h k
unfolding has byte_of
has_byte = mark_sets (λ h. (k : Kind) → has (byte_of h) k ≡ h k)
    (elim [ useless ↦ refl | cant_reach ↦ refl ])
    (elim [ useless ↦ refl | cant_reach ↦ refl ])
    (elim [ useless ↦ refl | cant_reach ↦ refl ])
    (elim [ useless ↦ refl | cant_reach ↦ refl ])

-- "A word is 0, 2, 4 or 6."
pub word_cases : (P : ℕ → Type 0) → P 0 → P 2 → P 4 → P 6 → (w : ℕ) → T (is_word w) → P w
unfolding is_word
word_cases P a b c d w t = or 6 d (eqb w 0 || eqb w 2 || eqb w 4) (or 4 c (eqb w 0 || eqb w 2) (or 2 b (eqb w 0) (is 0 a))) t
  where
    is : (n : ℕ) → P n → T (eqb w n) → P w
    is n x e = subst P (sym ((T-eq w n).0 e)) x

    or : (n : ℕ) → P n → (t : Bool) → (T t → P w) → T (t || eqb w n) → P w
    or n x t f s = elim ((T-or t (eqb w n)).0 s) [ inl h ↦ f h | inr e ↦ is n x e ]

-- a byte made of two marks is a word
pub byte_word : (h : Kind → Bool) → T (is_word (byte_of h))
unfolding is_word byte_of
byte_word = mark_sets (λ h. T (is_word (byte_of h))) tt tt tt tt

-- a word is made of its two marks
pub word_byte : (w : ℕ) → T (is_word w) → w ≡ byte_of (has w)
unfolding byte_of has
word_byte = word_cases (λ w. w ≡ byte_of (has w)) refl refl refl refl

-- two words with the same marks are equal
pub word_same : (v w : ℕ) → T (is_word v) → T (is_word w) → ((k : Kind) → has v k ≡ has w k) → v ≡ w
word_same v w s t e = word_byte v s ∙ ap byte_of (fun_ext e) ∙ sym (word_byte w t)

-- 1, faulty, is no word
pub word_not_one : (w : ℕ) → T (is_word w) → eqb w 1 ≡ false
word_not_one = word_cases (λ w. eqb w 1 ≡ false) refl refl refl refl

-- "1 blocks for both marks, 8 blocks for neither", and a word for the marks that it holds
pub one_blocks : (k : Kind) → byte_blocks 1 k ≡ true
unfolding byte_blocks has
one_blocks = elim [ useless ↦ refl | cant_reach ↦ refl ]

pub eight_open : (k : Kind) → byte_blocks 8 k ≡ false
unfolding byte_blocks has
eight_open = elim [ useless ↦ refl | cant_reach ↦ refl ]

pub word_blocks : (w : ℕ) → T (is_word w) → (k : Kind) → byte_blocks w k ≡ has w k
unfolding byte_blocks has
word_blocks w t k = ap (λ (x : Bool). x || has w k) (word_not_one w t)

-- ---- mark bytes

-- a faulty node's byte holds neither mark
pub one_none : (k : Kind) → T (has 1 k) → ⊥
unfolding has
one_none useless t = t
one_none cant_reach t = t

-- a working node's byte is made of its two marks
pub mark_works : (m : Map) (o : ℕ) (p : Place) → T (works m p) → mark_at m o p ≡ byte_of (holds m o p)
unfolding mark_at
mark_works m o p w = cond_false (faulty m p) 1 (byte_of (holds m o p)) w

-- "1 faulty"
pub mark_faulty : (m : Map) (o : ℕ) (p : Place) → (mark_at m o p ≡ 1) ↔ T (faulty m p)
unfolding mark_at is_word
mark_faulty m o p = go (faulty m p)
  where
    go : (b : Bool) → (cond b 1 (byte_of (holds m o p)) ≡ 1) ↔ T b
    go true = (λ e. tt, λ t. refl)
    go false = (λ e. subst (λ (w : ℕ). T (is_word w)) e (byte_word (holds m o p)), λ t. absurd t)

-- "Mark byte: 0 none, 1 faulty, 2 useless, 4 can't-reach, 6 both", and no other
pub mark_cases : (m : Map) (o : ℕ) (p : Place) → (mark_at m o p ≡ 1) ⊎ T (is_word (mark_at m o p))
unfolding mark_at
mark_cases m o p = go (faulty m p)
  where
    go : (b : Bool) → (cond b 1 (byte_of (holds m o p)) ≡ 1) ⊎ T (is_word (cond b 1 (byte_of (holds m o p))))
    go true = inl refl
    go false = inr (byte_word (holds m o p))

-- the byte of a node holds its marks, and no other
pub mark_has : (m : Map) (o : ℕ) (p : Place) (k : Kind) → Inside m.sizes p → has (mark_at m o p) k ≡ holds m o p k
mark_has m o p k i = elim (tried (faulty m p)) [
  | inr w ↦ rw (mark_works m o p w) (has_byte (holds m o p) k)
  | inl f ↦ bool_ext (has (mark_at m o p) k) (holds m o p k)
      (λ t. absurd (one_none k (rw ((mark_faulty m o p).1 f) at t)))
      (λ t. absurd ((T-no (faulty m p)).0 ((useless_iff m (heading o k) p i).0 t).0 f))
]

-- "A node is unsafe if its byte is not 0": if it is faulty or holds a mark.
pub unsafe_is : (m : Map) (o : ℕ) (p : Place) → unsafe_at m o p ≡ faulty m p || holds m o p useless || holds m o p cant_reach
unfolding unsafe_at mark_at byte_of
unsafe_is m o p = go (faulty m p) (holds m o p)
  where
    go : (f : Bool) (h : Kind → Bool) → not (eqb (cond f 1 (byte_of h)) 0) ≡ f || h useless || h cant_reach
    go true h = refl
    go false h = mark_sets (λ h. not (eqb (byte_of h) 0) ≡ h useless || h cant_reach) refl refl refl refl h
