-- What was told so far, and the rows that are left, are all rows.
use Rattle.std.proofs.Common.{◌≡◌, ◌++◌, ◌-◌, List, drop, length}
use Rattle.std.specs.Prelude.{map}
use Rattle.mix_dap.specs.Prelude.{Event, AddsEvents, row_output}
use Rattle.mix_dap.proofs.printed.tell_rows.Given as goal

abbrev pub invariant-loop-at : goal.invariant-loop-at
invariant-loop-at l = (done : List Event) × AddsEvents done l.fn.out l.out
    × (map row_output (drop l.fn.from l.unit.rows) ≡ done ++ map row_output (drop l.at l.unit.rows))

abbrev pub decreases-loop-at : goal.decreases-loop-at
decreases-loop-at l = length l.unit.rows - l.at
