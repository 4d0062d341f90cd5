-- `picture::symbols::draw_over` meets its contract: one symbol a turn. Assumes nothing.
use mathlib.Core.List.{List}
use Prim.Native.Nat.{ℕ}
use lib.ListN.{get_or}
use Rattle.mesh.specs.Fill.{Filled}
use Rattle.picture.specs.Picture.{symbol_of}
use Rattle.picture.proofs.symbols.draw_over.Given as goal

abbrev pub drawing : ℕ → ℕ → List ℕ → List ℕ → ℕ → ℕ
drawing start end old cells i = symbol_of start end i (get_or old i 0) (get_or cells i 0)

abbrev pub invariant-loop-k : goal.invariant-loop-k
invariant-loop-k l = Filled (λ i. i) (drawing l.start l.end l.initial.drawn l.cells) l.initial.drawn l.drawn l.k
