-- `grids::copy_row` meets its contract: the part of the table that is written has the grid's numbers. Assumes nothing.
use Rattle.std.proofs.Common.{rules, arith, ◌≡◌, ◌+◌, ◌-◌, ◌<◌, ◌≤◌, ◌++◌, List, ℕ, length, get_or}
use Rattle.std.proofs.lemmas.List.{places}
use lib.ListN.{take, drop}
use Rattle.mesh.specs.Fill.{Filled}
use Rattle.grids.proofs.copy_row.Goals as goal

-- a part of a list put back with other numbers
part_filled : (old part : List ℕ) (at n k : ℕ) (v : ℕ → ℕ) → k ≡ n → at + n ≤ length old → length part ≡ n
    → ((x : ℕ) → x < n → get_or part x 0 ≡ v x) → Filled (λ x. at + x) v old (take at old ++ (part ++ drop k (drop at old))) n
part_filled old part at n k v same fits long is =
    record {
      at = λ x h. grind (arith, places, is);
      kept = λ j h. grind (arith, places, h (j - at));
      size = search (rules, places);
    }

pub returns : goal.returns
returns c =
    let copied = c.copy_from_slice.ensures.after in
    part_filled c.args.table.now c.copy_from_slice.new.self c.args.k c.args.w _ _ (omega arith) (omega arith) (search (rules, places))
    λ x h. grind (arith, places)
