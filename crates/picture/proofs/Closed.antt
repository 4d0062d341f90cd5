-- Why a picture is a proof: no step towards the end from `S` or from an `o` leads to a dot or to `E`. So a reader who follows the steps one by
-- one needs nothing else (`closed_refuses` of `paths`). Assumes nothing.
use mathlib.Core.Path.{◌≡◌, refl, sym, ap, ◌∙◌, subst}
use mathlib.Core.Logic.{◌⊎◌, inl, inr}
use mathlib.Core.Bool.{Bool, true, false, cond}
use mathlib.Core.List.{List}
use Prim.Native.Nat.{ℕ}
use native.Mathlib.Omega.{arith}
use lib.Dec.{T, eqb}
use lib.ListN.{get_or}
use Rattle.mesh.specs.Tools.{one}
use Rattle.mesh.specs.Mesh.{Inside, number, place_of}
use Rattle.mesh.specs.Steps.{next}
use Rattle.mesh.specs.Cells.{Map, map_of, cell_at, may_pass, may_end, linked}
use Rattle.mesh.specs.declared.Sizes.{Sizes}
use Rattle.mesh.specs.declared.Place.{Place}
use Rattle.mesh.proofs.Tests.{T-eq, T-cond, T-no}
use Rattle.mesh.proofs.Numbers.{number_of, place_of_lem}
use Rattle.mesh.proofs.Steps.{next_in}
use Rattle.paths.specs.Differences.{preferred, same}
use Rattle.paths.specs.Paths.{may_enter, leads}
use Rattle.paths.specs.Offered.{reached}
use Rattle.paths.specs.Entries.{check_ends}
use Rattle.paths.proofs.Differences.{same_iff}
use Rattle.paths.proofs.Paths.{may_hop_iff}
use Rattle.paths.proofs.Reached.{start_reached, reached_on, byte_iff}
use Rattle.routes.proofs.Ends.{ends_granted}
use Rattle.picture.specs.Picture.{symbol_of, symbol_in}
use Rattle.std.specs.Prelude.{Some}
use Rattle.mesh.specs.Answers.{accepted}

-- ---- what a symbol says

abbrev drawn : Bool → Bool → Bool → Bool → ℕ
drawn a b c d = cond a 83 (cond b 69 (cond c 111 (cond d 46 35)))

-- drawn as reached: `S` or `o`
abbrev pub Marked : ℕ → Type 0
Marked x = (x ≡ 83) ⊎ (x ≡ 111)

marked : (a b c d : Bool) → Marked (drawn a b c d) → T a ⊎ T c
marked true b c d h = inl tt
marked false true c d (inl h) = absurd (omega arith)
marked false true c d (inr h) = absurd (omega arith)
marked false false true d h = inr tt
marked false false false true (inl h) = absurd (omega arith)
marked false false false true (inr h) = absurd (omega arith)
marked false false false false (inl h) = absurd (omega arith)
marked false false false false (inr h) = absurd (omega arith)

dotted : (a b c d : Bool) → drawn a b c d ≡ 46 → (T b → ⊥) × (T c → ⊥) × T d
dotted true b c d h = absurd (omega arith)
dotted false true c d h = absurd (omega arith)
dotted false false true d h = absurd (omega arith)
dotted false false false true h = (λ t. t, λ t. t, tt)
dotted false false false false h = absurd (omega arith)

ended : (a b c d : Bool) → drawn a b c d ≡ 69 → T b
ended true b c d h = absurd (omega arith)
ended false true c d h = tt
ended false false true d h = absurd (omega arith)
ended false false false true h = absurd (omega arith)
ended false false false false h = absurd (omega arith)

-- ---- the picture of a transfer without a path

module _ (S : Sizes) (cells : List ℕ) (s e : ℕ) (checked : check_ends S cells s e ≡ accepted)
    (none : T (leads (map_of S cells) (place_of S e) (place_of S s) (place_of S e)) → ⊥) where
  abbrev m : Map
  m = map_of S cells

  abbrev seen : Place → ℕ
  seen p = get_or (reached m (place_of S s) (place_of S e)) (number S p) 0

  symbol_is : (p : Place) → symbol_in m s e (number S p)
      ≡ drawn (eqb (number S p) s) (eqb (number S p) e) (one (seen p)) (may_pass (cell_at m p))
  unfolding symbol_of
  symbol_is p = refl

  marked_reached : (p : Place) → Inside S p → Marked (symbol_in m s e (number S p)) → T (leads m (place_of S e) (place_of S s) p)
  marked_reached p i h =
      elim (marked (eqb (number S p) s) (eqb (number S p) e) (one (seen p)) (may_pass (cell_at m p)) (subst (λ (x : ℕ). Marked x) (symbol_is p) h)) [
        | inl t ↦
            let q : place_of S s ≡ p = ap (place_of S) (sym ((T-eq (number S p) s).0 t)) ∙ place_of_lem S p i in
            subst (λ (x : Place). T (leads m (place_of S e) (place_of S s) x)) q
            (start_reached m (place_of S e) (place_of S s) (ends_granted S cells s e checked).start_in)
        | inr t ↦ (byte_iff m (place_of S s) (place_of S e) p i).0 ((T-eq (seen p) 1).0 t)
      ]

  -- a step towards the end, from a node that is drawn as reached
  module _ (p r : Place) (j : ℕ) (i : Inside S p) (from : Marked (symbol_in m s e (number S p))) (led : next S p j ≡ Some r)
      (towards : T (preferred p (place_of S e) j)) where
    reached_if : T (may_enter m (place_of S e) r) → T (leads m (place_of S e) (place_of S s) r)
    unfolding linked
    reached_if may =
        reached_on m (place_of S e) (place_of S s) (ends_granted S cells s e checked).start_in p r j (marked_reached p i from) led
        ((may_hop_iff m (place_of S e) p j r).1 (towards, rw led tt, may))

    pub not_to_end : symbol_in m s e (number S r) ≡ 69 → ⊥
    unfolding may_enter
    not_to_end h =
        let t = ended (eqb (number S r) s) (eqb (number S r) e) (one (seen r)) (may_pass (cell_at m r)) (sym (symbol_is r) ∙ h) in
        let q : r ≡ place_of S e = sym (place_of_lem S r (next_in S p r i j led)) ∙ ap (place_of S) ((T-eq (number S r) e).0 t) in
        let may : T (may_end (cell_at m r)) = subst (λ (x : Place). T (may_end (cell_at m x))) (sym q) (ends_granted S cells s e checked).end_may in
        let enter = (T-cond (same r (place_of S e)) (may_end (cell_at m r)) (may_pass (cell_at m r))).1
        (λ u. may, λ u. absurd ((T-no (same r (place_of S e))).0 u ((same_iff r (place_of S e)).1 q))) in
        none (subst (λ (x : Place). T (leads m (place_of S e) (place_of S s) x)) q (reached_if enter))

    pub not_to_dot : symbol_in m s e (number S r) ≡ 46 → ⊥
    unfolding may_enter
    not_to_dot h =
        let (other, unseen, pass) = dotted (eqb (number S r) s) (eqb (number S r) e) (one (seen r)) (may_pass (cell_at m r)) (sym (symbol_is r) ∙ h) in
        let far : T (same r (place_of S e)) → ⊥ =
        λ u. other ((T-eq (number S r) e).1 (ap (number S) ((same_iff r (place_of S e)).0 u) ∙ number_of S e)) in
        let enter = (T-cond (same r (place_of S e)) (may_end (cell_at m r)) (may_pass (cell_at m r))).1 (λ u. absurd (far u), λ u. pass) in
        unseen ((T-eq (seen r) 1).1 ((byte_iff m (place_of S s) (place_of S e) r (next_in S p r i j led)).1 (reached_if enter)))
