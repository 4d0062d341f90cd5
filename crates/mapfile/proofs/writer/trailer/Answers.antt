-- `mapfile::writer::trailer` meets its contract: each size is below 256. Assumes nothing.
use mathlib.Core.Path.{ap, ◌∙◌}
use mathlib.Core.List.{List, ◌∷◌}
use Prim.Native.Nat.{ℕ, ◌+◌}
use lib.ListN.{get_or}
use Rattle.octets.specs.LittleEndian.{four_bytes}
use Rattle.format.specs.Format.{file_mark, trailer}
use Rattle.mapfile.proofs.writer.trailer.Goals as goal

pub returns : goal.returns
unfolding trailer
returns c =
    let s = c.args.s in
    ap (λ (l : List ℕ). s.w ∷ s.h ∷ s.d ∷ 0 ∷ get_or l 0 0 ∷ get_or l 1 0 ∷ get_or l 2 0 ∷ get_or l 3 0 ∷ file_mark)
    (c.four_bytes-distance.ensures ∙ ap (λ (n : ℕ). four_bytes (n + 12)) c.nodes.ensures.0)
