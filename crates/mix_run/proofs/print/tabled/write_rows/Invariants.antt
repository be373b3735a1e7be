use Rattle.std.proofs.Common.{◌≡◌, List, ℕ}
use Rattle.std.specs.Io.KnownBytes.{Appends}
use Rattle.mix_run.specs.Prelude.{steps_of}
use Rattle.mix_run.specs.StepTable.{unwatched}
use Rattle.mix_run.proofs.TabledLemmas.{Rests}
use Rattle.mix_run.proofs.print.tabled.write_rows.Given as goal

abbrev pub invariant-loop-left : goal.invariant-loop-left
invariant-loop-left g l = record {
  written : (done : List ℕ) × Appends (g.W.Out.told l.fn.out) (g.W.Out.told l.out) done;
  failed : g.W.Out.failed l.out ≡ g.W.Out.failed l.fn.out;
  rests : Rests l.fn.options l.left l.world (steps_of (unwatched l.fn.options) l.fn.world);
}

abbrev pub decreases-loop-left : goal.decreases-loop-left
decreases-loop-left g l = l.left
