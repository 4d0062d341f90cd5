-- What is said of a call's contract itself, as the toolchain reads it from the code: that a promise holds of whatever it allows; and 01, "How tight the
-- contracts are". What is lent is found from the call's own parameters. Assumes nothing.
use Rattle.std.specs.Prelude.{List, [], ◌∷◌, ◌≡◌, ℕ}
use Rattle.std.specs.Borrow.{Fml}
use contract.Lifetimes.{Lfts}
use denote.Exit.{Exit, unchanged, leaves, Last}
use denote.Ref.{MutBor, at_last}
use denote.Triple.End.{Fins}
use denote.Triple.Clauses.{Lasts, AtExit, at_exit}
use borrow.Fn.Kinds.{ParamKind, ResultKind, In, Out, Den, Dens, slot_of, slots, kepts, res_t, ended_of}

-- P holds of every outcome that a contract allows: of the arguments, the result, and the parameters at exit
abbrev pub Promised : (n : ℕ) (ps : List (ParamKind n)) (r : ResultKind n) → Out n ps r → Out n ps r → Type 0
Promised n ps r Allows P = (κs : Lfts n) (a : Dens κs ps) (x : (res_t r κs).Denot) (s : AtExit (ended_of n ps r) κs) → Allows κs a x s → P κs a x s

-- What a call can leave of a parameter: nothing, where it is a number or is only read; the last value of what is lent to be written.
pub data Lending : (D : Type 0) → Exit D → Type 1 where
  read_only : {D : Type 0} → Lending D unchanged
  lent : {X : Type 0} {says : (x : MutBor X) → X → Fml} → Lending (MutBor X) (leaves (λ x. X) says (MutBor X) at_last (λ x. x.now))

-- the last value is the one that was there before
abbrev pub Unchanged : {D : Type 0} {e : Exit D} → Lending D e → (x : D) → Last e x → Type 0
Unchanged read_only x w = Unit {0}
Unchanged lent x w = w ≡ x.now

-- the same of all parameters of a call
module _ {n : ℕ} (κs : Lfts n) where
  abbrev pub Lendings : List (ParamKind n) → Type 1
  Lendings [] = Unit {1}
  Lendings (k ∷ ps) = Lending (Den κs k) (((slot_of k).row κs).exit k.is.keeps) × Lendings ps

  abbrev pub AllUnchanged : (ps : List (ParamKind n)) → Lendings ps → (a : Dens κs ps) → Fins κs (slots ps) (kepts ps) a → Type 0
  AllUnchanged [] l a ws = Unit {0}
  AllUnchanged (k ∷ ps) l a ws = Unchanged l.0 a.0 ws.0 × AllUnchanged ps l.1 a.1 ws.1

-- A call with these parameters and this result: what its contract asks of the arguments, what it allows, and the number of the refusal in its result.
pub record Tight (n : ℕ) (ps : List (ParamKind n)) (r : ResultKind n) (Asks : In n ps) (Allows : Out n ps r) (refusal : (κs : Lfts n) → (res_t r κs).Denot → ℕ) : Type 1 where
  -- it takes every input
  pub every : (κs : Lfts n) (a : Dens κs ps) → Asks κs a
  -- "Any two outcomes it allows are proved equal": the result, and the last values of all that is lent
  pub one : (κs : Lfts n) (a : Dens κs ps) (x y : (res_t r κs).Denot) (ws vs : Lasts (ended_of n ps r) κs a)
      → Allows κs a x (at_exit (ended_of n ps r) κs a ws) → Allows κs a y (at_exit (ended_of n ps r) κs a vs) → (x ≡ y) × (ws ≡ vs)
  -- "No lent byte changes" on a refusal
  pub lending : (κs : Lfts n) → Lendings κs ps
  pub kept : (κs : Lfts n) (a : Dens κs ps) (x : (res_t r κs).Denot) (ws : Lasts (ended_of n ps r) κs a)
      → Allows κs a x (at_exit (ended_of n ps r) κs a ws) → (refusal κs x ≡ 0 → ⊥) → AllUnchanged κs ps (lending κs) a ws
