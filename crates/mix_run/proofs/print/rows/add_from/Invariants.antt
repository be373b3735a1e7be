use Rattle.std.proofs.Common.{◌≡◌, ◌-◌, ◌++◌, drop, flat_map, length}
use Rattle.mix_run.specs.Print.{printed_row}
use Rattle.mix_run.proofs.print.rows.add_from.Given as goal

-- the rows so far, and those that are left, are all rows
abbrev pub invariant-loop-at : goal.invariant-loop-at
invariant-loop-at l =
    l.text.items ++ flat_map printed_row (drop l.at l.unit.rows) ≡ l.fn.text.items ++ flat_map printed_row (drop l.fn.from l.unit.rows)

abbrev pub decreases-loop-at : goal.decreases-loop-at
decreases-loop-at l = length l.unit.rows - l.at
