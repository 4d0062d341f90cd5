-- `sweeps::offers::flag` meets its contract: a direction is at most 5, so no bit is lost. Assumes nothing.
use mathlib.Core.Path.{◌≡◌, sym, ap, ◌∙◌}
use Prim.Native.Nat.{ℕ, zero, suc, ◌+◌, ◌*◌, ◌%◌, ◌^◌, ◌<◌, ◌≤◌}
use native.Mathlib.Omega.{arith}
use lib.IntN.{ℤ, pos, negsuc}
use Rattle.std.specs.Prelude.{Option, Some}
use Rattle.mesh.proofs.Whole.{back}
use Rattle.paths.specs.Differences.{wanted}
use Rattle.sweeps.specs.Sweep.{flag_of}
use Rattle.sweeps.proofs.offers.flag.Goals as goal

way_lt : (up : ℕ) (d : ℤ) (j : ℕ) → up < 5 → wanted up d ≡ Some j → j < 6
way_lt up (pos zero) j h e = let z : ◌≡◌ {A = ℕ} 0 1 = cc in absurd (omega arith)
way_lt up (pos (suc n)) j h e = let q : up ≡ j = cc in omega arith
way_lt up (negsuc n) j h e = let q : up + 1 ≡ j = cc in omega arith

-- shifted, as the machine does it
shifted : (seen j : ℕ) → seen ≤ 1 → j < 6 → (seen * 2 ^ j % 256 ≡ seen * 2 ^ j) × (seen * 2 ^ j % 256 ≤ 32)
shifted seen zero h k = (omega arith, omega arith)
shifted seen (suc zero) h k = (omega arith, omega arith)
shifted seen (suc (suc zero)) h k = (omega arith, omega arith)
shifted seen (suc (suc (suc zero))) h k = (omega arith, omega arith)
shifted seen (suc (suc (suc (suc zero)))) h k = (omega arith, omega arith)
shifted seen (suc (suc (suc (suc (suc zero))))) h k = (omega arith, omega arith)
shifted seen (suc (suc (suc (suc (suc (suc j)))))) h k = absurd (omega arith)

pub returns-in-Some : goal.returns-in-Some
returns-in-Some c =
    let a = c.args in
    let e = sym (c.way.ensures ∙ ap (wanted a.up) (back a.d (omega arith))) ∙ c.in-Some.is in
    let q = shifted a.seen c.in-Some.j c.requires.2 (way_lt a.up a.d c.in-Some.j c.requires.0 e) in
    (q.0 ∙ sym (ap (λ (w : Option ℕ). flag_of w a.seen) e), q.1)
