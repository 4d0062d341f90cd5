-- Every refusal has its line in the table of reasons, and only one says that there is no path. Assumes nothing.
use mathlib.Core.Path.{◌≡◌, refl}
use mathlib.Core.Bool.{false}
use Prim.Native.Nat.{ℕ, ◌<◌}
use native.Mathlib.Omega.{arith}
use lib.ListN.{length}
use Rattle.mesh.specs.Answers.{refusal_no}
use Rattle.mesh.specs.declared.Refusal.{Refusal}
use Rattle.mesh.specs.declared.Refusal.TheVariants.{BadSizes, BadLength, NoRoom, BadCell, BadNumber, Unsound, NoPair, NotHeld, FaultyEnd, NoPath, BadFile}
use Rattle.logfile.specs.Log.{lines_of}
use Rattle.transfers.specs.Words.{reasons}
use Rattle.transfers.specs.Transfer.{no_path}

twelve : length (lines_of reasons) ≡ 12
unfolding reasons lines_of
twelve = refl

no_lt : (r : Refusal) → refusal_no r < 12
no_lt BadSizes = omega arith
no_lt BadLength = omega arith
no_lt NoRoom = omega arith
no_lt (BadCell k) = omega arith
no_lt BadNumber = omega arith
no_lt Unsound = omega arith
no_lt NoPair = omega arith
no_lt NotHeld = omega arith
no_lt FaultyEnd = omega arith
no_lt NoPath = omega arith
no_lt BadFile = omega arith

pub has_reason : (n : ℕ) (r : Refusal) → n ≡ refusal_no r → n < length (lines_of reasons)
has_reason n r is = omega (arith, twelve, no_lt r)

pub other_reason : (r : Refusal) → (r ≡ NoPath → ⊥) → no_path r ≡ false
other_reason BadSizes h = refl
other_reason BadLength h = refl
other_reason NoRoom h = refl
other_reason (BadCell k) h = refl
other_reason BadNumber h = refl
other_reason Unsound h = refl
other_reason NoPair h = refl
other_reason NotHeld h = refl
other_reason FaultyEnd h = refl
other_reason NoPath h = absurd (h refl)
other_reason BadFile h = refl
