-- A word that comes over a link leaves a sound state sound. It changes nothing where no word may cross, or where it is what was heard
-- already: so the code may leave it out. Assumes nothing.
use mathlib.Core.Path.{◌≡◌, refl}
use mathlib.Core.Bool.{false, not, ◌&&◌}
use mathlib.Core.List.{List, [], ◌∷◌}
use Prim.Native.Nat.{ℕ}
use lib.Dec.{T, eqb}
use Rattle.mesh.specs.Mesh.{in_range}
use Rattle.mesh.specs.declared.Sizes.{Sizes}
use Rattle.mesh.proofs.Tests.{holds_true}
use Rattle.mesh.proofs.Answers.{sizes_is}
use Rattle.talk.specs.State.{heard, map_in, pair}
use Rattle.talk.specs.Entries.{hear_out}
use Rattle.talk.specs.Rounds.{hearing}
use Rattle.states.specs.Six.{Ready}
use Rattle.talk.proofs.Same.{on_state}
use Rattle.talk.proofs.Calls.{no_news}
use Rattle.talk.proofs.Promise.{promise}
use Rattle.rounds.specs.Links.{Fit}

module _ (S : Sizes) (o : ℕ) (s : List ℕ) (f : Fit S o s) where
  pub ranged : T (in_range S)
  ranged = (holds_true (in_range S)).1 (sizes_is S f.sized)

  pub hear_fit : (k j w : ℕ) → Fit S o (hear_out S o k j w s)
  hear_fit k j w =
      record {
        sized = f.sized;
        turned = f.turned;
        sound =
            ((promise (map_in S s) o ranged f.turned s f.sound (on_state (map_in S s) o s f.sound)).sound (hear_out S o k j w s)
            (record { calls = hearing k j w ∷ []; kept = tt; ends = refl })).0;
      }

  pub nothing_new : (k j w : ℕ) → pair (map_in S s) k j && not (eqb (heard s k j) w) ≡ false → hear_out S o k j w s ≡ s
  nothing_new = no_news (map_in S s) o ranged f.turned s f.sound
