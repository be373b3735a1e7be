use Rattle.std.proofs.Common.{◌≡◌, ◌+◌, ◌≤◌, ◌++◌, length}
use Rattle.mix_lines.specs.Lines.{lines}
use Rattle.mixal_asm.specs.Diagnose.{warnings_from, up_to_end}
use Rattle.mixal_asm.proofs.diagnosis.add_warnings.Given as goal

abbrev pub invariant-loop-line : goal.invariant-loop-line
invariant-loop-line l = record {
  leads : l.list.items ++ warnings_from l.uses.entries l.definitions.entries l.number (up_to_end (lines l.rest))
      ≡ l.initial.list.items ++ warnings_from l.uses.entries l.definitions.entries 1 (up_to_end (lines l.fn.text));
  bound : l.number + length l.rest ≤ length l.fn.text + 1;
}

abbrev pub decreases-loop-line : goal.decreases-loop-line
decreases-loop-line l = length l.rest
