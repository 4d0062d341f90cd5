-- Eight bits, one to a byte: tried for all 256 of them. Assumes nothing.
use mathlib.Core.Path.{◌≡◌}
use mathlib.Core.Bool.{Bool, true, false}
use Prim.Native.Nat.{ℕ, ◌+◌, ◌*◌, ◌/◌, ◌<◌}
use lib.Bits.{bit_and}
use lib.Dec.{T, eqb}
use Rattle.mesh.specs.Tools.{bit, all}
use Rattle.mesh.proofs.Tests.{T-all, T-eq}
use Rattle.rows.specs.Row.{bit_at}
use Rattle.rows.specs.Bytes.{joined, turned}

-- how they are spread by a mask, and that this is right
abbrev spread_by : ℕ → ℕ → ℕ
spread_by mask b = bit_and ((bit_and (b * 0x0101_0101_0101_0101) mask + 0x7f7f_7f7f_7f7f_7f7f) / 128) 0x0101_0101_0101_0101

abbrev spreads : ℕ → Bool → ℕ → Bool
spreads mask down b = eqb (spread_by mask b) (joined (λ k. bit (bit_at b (turned down k))) 8)

all_up : T (all 256 (spreads 0x8040_2010_0804_0201 false))
unfolding all joined bit_at
all_up = tt

all_down : T (all 256 (spreads 0x0102_0408_1020_4080 true))
unfolding all joined bit_at
all_down = tt

pub spread_up : (b : ℕ) → b < 256 → spread_by 0x8040_2010_0804_0201 b ≡ joined (λ k. bit (bit_at b k)) 8
spread_up b h = (T-eq _ _).0 ((T-all 256 (spreads 0x8040_2010_0804_0201 false)).0 all_up b h)

pub spread_down : (b : ℕ) → b < 256 → spread_by 0x0102_0408_1020_4080 b ≡ joined (λ k. bit (bit_at b (turned true k))) 8
spread_down b h = (T-eq _ _).0 ((T-all 256 (spreads 0x0102_0408_1020_4080 true)).0 all_down b h)
