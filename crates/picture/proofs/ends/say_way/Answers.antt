-- `picture::ends::say_way` meets its contract. Assumes nothing.
use mathlib.Core.Path.{◌≡◌, ap}
use mathlib.Core.Bool.{cond}
use mathlib.Core.List.{[], ◌∷◌}
use Prim.Native.Nat.{ℕ}
use native.Mathlib.Omega.{arith}
use borrow.Author.Tests.{eq-eqb, ne_eqb}
use Rattle.text.proofs.Adding.{added_none, added_as, added_within}
use Rattle.picture.specs.Picture.{way_text}
use Rattle.picture.proofs.ends.say_way.Goals as goal
use Rattle.picture.proofs.ends.say_way.Goals.{then-r, else-r}

pub returns-after-r : goal.returns-after-r
unfolding way_text
returns-after-r g c =
    let axis = c.args.axis in
    let sign : c.if-r.sign ≡ cond c.args.r.down 45 43 =
    elim c.if-r.branch [ then-r w ↦ rw w.if-r.true w.sign-is | else-r w ↦ rw w.if-r.false w.sign-is ] in
    rw (ne_eqb _ _ c.if-r-ne0.true) (added_as (ap (λ (b : ℕ). 32 ∷ b ∷ axis ∷ []) sign) c.say.ensures)

pub returns-else-r-ne0 : goal.returns-else-r-ne0
unfolding way_text
returns-else-r-ne0 g c = rw (eq-eqb _ _ c.if-r-ne0.false) (added_within (omega arith) (added_none _))
