-- The offered set at the start of a route is the bits of its preferred directions, each set where the way is seen. Assumes nothing.
use mathlib.Core.Path.{◌≡◌, subst}
use mathlib.Core.Bool.{Bool, true, false, not, ◌&&◌}
use Prim.Native.Nat.{ℕ, ◌+◌, ◌-◌, ◌*◌, ◌^◌}
use native.Mathlib.Omega.{arith}
use lib.IntN.{nat_abs, sub_ℕ}
use lib.Dec.{T, ltb}
use borrow.Author.Tests.{lt-ltb, le-ltb}
use Rattle.mesh.specs.Tools.{bit, sum}
use Rattle.mesh.specs.Mesh.{Axis, X, Y, Z, on, Inside}
use Rattle.mesh.specs.Steps.{along}
use Rattle.mesh.specs.Cells.{Map, cell_at, may_end}
use Rattle.mesh.proofs.Steps.{put}
use Rattle.mesh.specs.declared.Place.{Place}
use Rattle.paths.specs.Differences.{difference, wanted}
use Rattle.paths.specs.Offered.{offers, offered}
use Rattle.paths.proofs.Differences.{Sign, level, above, below, sign, size_is}
use Rattle.rows.specs.Box.{between, far, Within}
use Rattle.sweeps.specs.Sweep.{ways_of, flag_of}
use Rattle.sweeps.proofs.Runs.{run_on, reach_far}
use Rattle.sweeps.proofs.Backward.{ahead, offers_back, offers_on}
use Rattle.rows.specs.declared.Between.{Between}

-- of two directions of an axis, one from c to b and one away, the bit of the first
flag_is : (up c b : ℕ) (f : Bool → Bool) (o : Bool) → f (not (ltb c b)) ≡ o → f (ltb c b) ≡ false → (c ≡ b → o ≡ false)
    → bit (f false) * 2 ^ up + bit (f true) * 2 ^ (up + 1) ≡ flag_of (wanted up (sub_ℕ b c)) (bit o)
flag_is up c b f o there away flat = split (sign c b)
  where
    split : Sign c b → bit (f false) * 2 ^ up + bit (f true) * 2 ^ (up + 1) ≡ flag_of (wanted up (sub_ℕ b c)) (bit o)
    split (level e h) =
        let l = le-ltb c b (omega arith) in
        rw (h, subst (λ (t : Bool). f t ≡ false) l away, subst (λ (t : Bool). f (not t) ≡ o) l there, flat e) (omega arith)
    split (above n e h) =
        let l = lt-ltb c b (omega arith) in
        rw (h, subst (λ (t : Bool). f t ≡ false) l away, subst (λ (t : Bool). f (not t) ≡ o) l there) (omega arith)
    split (below n e h) =
        let l = le-ltb c b (omega arith) in
        rw (h, subst (λ (t : Bool). f t ≡ false) l away, subst (λ (t : Bool). f (not t) ≡ o) l there) (omega arith)

module _ (m : Map) (s e : Place) (s_in : Inside m.sizes s) (e_in : Inside m.sizes e) (ends : T (may_end (cell_at m e))) where
  abbrev g : Between
  g = between e s

  far_within : Within g (far g)
  far_within = record { x_le = omega arith; y_le = omega arith; z_le = omega arith }

  there : (a : Axis) → offers m e s (along a (not (run_on g a).down)) ≡ (ltb 0 (on (far g) a) && ahead m s e s_in e_in (put a (far g) (on (far g) a - 1)))
  there a = subst (λ (p : Place). offers m e p (along a (not (run_on g a).down)) ≡ (ltb 0 (on (far g) a) && ahead m s e s_in e_in (put a (far g) (on (far g) a - 1))))
      (reach_far e s) (offers_back m s e s_in e_in ends (far g) far_within a)

  away : (a : Axis) → offers m e s (along a (run_on g a).down) ≡ false
  away a = subst (λ (p : Place). offers m e p (along a (run_on g a).down) ≡ false) (reach_far e s) (offers_on m s e s_in e_in ends (far g) far_within a)

  flat : (c b : ℕ) (v : Bool) → c ≡ b → (ltb 0 (nat_abs (sub_ℕ c b)) && v) ≡ false
  flat c b v h = rw (le-ltb 0 (nat_abs (sub_ℕ c b)) (omega (arith, size_is b c)))

  pub offered_is : let w = ways_of (ahead m s e s_in e_in) (far g) in
      offered m e s ≡ flag_of (wanted 0 (difference s e X)) w.x + flag_of (wanted 2 (difference s e Y)) w.y + flag_of (wanted 4 (difference s e Z)) w.z
  unfolding offered sum
  offered_is = omega (
    arith,
    flag_is 0 s.x e.x (λ d. offers m e s (along X d)) _ (there X) (away X) (flat s.x e.x _),
    flag_is 2 s.y e.y (λ d. offers m e s (along Y d)) _ (there Y) (away Y) (flat s.y e.y _),
    flag_is 4 s.z e.z (λ d. offers m e s (along Z d)) _ (there Z) (away Z) (flat s.z e.z _),
  )
