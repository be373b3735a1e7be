use Rattle.std.proofs.Common.{◌≡◌, ◌+◌, ◌≤◌, ◌++◌, length}
use Rattle.mix_lines.specs.Lines.{lines}
use Rattle.mixal_asm.specs.Diagnose.{after_end_from}
use Rattle.mixal_asm.proofs.behind.add_after_end.Given as goal

abbrev pub invariant-loop-line : goal.invariant-loop-line
invariant-loop-line l = record {
  leads : l.list.items ++ after_end_from l.number (lines l.rest) ≡ l.initial.list.items ++ after_end_from 1 (lines l.fn.text);
  bound : l.number + length l.rest ≤ 1048577;
}

abbrev pub decreases-loop-line : goal.decreases-loop-line
decreases-loop-line l = length l.rest
