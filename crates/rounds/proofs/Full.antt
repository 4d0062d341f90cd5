-- A round without loss is the sweep of talk/proofs, and so a full round in 01's sense. Assumes nothing.
use mathlib.Core.Path.{◌≡◌, refl, ap, ◌∙◌}
use mathlib.Core.List.{List, [], ◌∷◌}
use Prim.Native.Nat.{ℕ, zero, suc, ◌/◌, ◌%◌}
use Rattle.mesh.specs.declared.Sizes.{Sizes}
use Rattle.talk.specs.Rounds.{hearing, run, held}
use Rattle.talk.proofs.Later.{run_append}
use Rattle.talk.proofs.Exists.{sweep}
use Rattle.rounds.specs.Links.{links, saying, comes}
use Rattle.rounds.specs.Rounds.{tells, full_round}

module _ (S : Sizes) (o : ℕ) (s : List ℕ) where
  sweep_leads : (l : ℕ) → run S o s (sweep S o s l) ≡ tells S o s l
  unfolding sweep tells
  sweep_leads zero = refl
  sweep_leads (suc l) =
      run_append S o (sweep S o s l) (hearing (l / 6) (l % 6) (held S o s (sweep S o s l) (l / 6) (l % 6)) ∷ []) s
      ∙ ap (λ (t : List ℕ). comes S o l (saying S t l) t) (sweep_leads l)

  pub round_leads : run S o s (sweep S o s (links S)) ≡ full_round S o s
  unfolding full_round
  round_leads = sweep_leads (links S)
