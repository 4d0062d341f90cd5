-- Cases 5, 6 and 7 of 01 as the contract answers them, beside the marks that the rules give: by computation on map P. And a way through a deep
-- mesh. Assumes nothing.
use mathlib.Core.Path.{◌≡◌, refl}
use mathlib.Core.Bool.{Bool, ◌&&◌}
use mathlib.Core.List.{[], ◌∷◌}
use Prim.Native.Nat.{ℕ}
use native.Mathlib.Omega.{arith}
use lib.Dec.{T, eqb}
use Rattle.mesh.specs.Tools.{all}
use Rattle.mesh.specs.Mesh.{sizes}
use Rattle.mesh.specs.Cells.{wall}
use Rattle.rules.specs.Marks.{rule, marked, stuck_within, stuck, byte_of, mark_at}
use Rattle.mesh.proofs.Tests.{T-all, T-and, T-eq}
use Rattle.paths.specs.Entries.{verdict_answer, grant}
use Rattle.paths.specs.Promise.{mark_on, MarksApart}
use Rattle.paths.proofs.Computed.{computed}
use Rattle.std.specs.Prelude.{Ok}

-- neither node 2 nor node 17 has a mark, in orientation o
abbrev unmarked : ℕ → Bool
unmarked o = eqb (mark_on o 2) 0 && eqb (mark_on o 17) 0

never_marked : T (all 8 unmarked)
unfolding computed all wall rule marked stuck_within stuck byte_of mark_at
never_marked = tt

pub marks_apart : MarksApart
unfolding computed wall rule marked stuck_within stuck byte_of mark_at
marks_apart = record {
  useless_end = (refl, refl);
  cant_reach_end = (refl, refl, refl);
  unmarked_pair = (
    λ o h. let (a, b) = (T-and (eqb (mark_on o 2) 0) (eqb (mark_on o 17) 0)).0 ((T-all 8 unmarked).0 never_marked o (omega arith)) in
        ((T-eq (mark_on o 2) 0).0 a, (T-eq (mark_on o 17) 0).0 b),
    refl,
  );
}

-- 2 × 2 × 2 with (1,0,0) faulty, from corner to corner: a hop on each axis, the first of them on Y or on Z
pub deep_way : verdict_answer (sizes 2 2 2) (0 ∷ 1 ∷ 0 ∷ 0 ∷ 0 ∷ 0 ∷ 0 ∷ 0 ∷ []) 0 7 ≡ Ok (grant 3 20)
unfolding computed
deep_way = refl
