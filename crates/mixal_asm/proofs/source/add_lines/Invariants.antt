use Rattle.std.proofs.Common.{◌≡◌, length}
use Rattle.mix_lines.specs.Lines.{lines}
use Rattle.mixal_asm.specs.Prelude.{program_from, IsReady}
use Rattle.mixal_asm.proofs.source.add_lines.Given as goal

abbrev pub invariant-loop-rest : goal.invariant-loop-rest
invariant-loop-rest l = record {
  leads : program_from l.fn.draft (lines l.fn.text) ≡ program_from l.draft (lines l.rest);
  ready : IsReady l.draft;
}

abbrev pub decreases-loop-rest : goal.decreases-loop-rest
decreases-loop-rest l = length l.rest
