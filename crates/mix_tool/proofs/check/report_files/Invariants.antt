use Rattle.std.proofs.Common.{◌≡◌, Some, length, map}
use Rattle.std.specs.Prelude.{string_bytes}
use Rattle.mix_run.specs.Opening.{Files}
use Rattle.mix_tool.proofs.CheckLemmas.{SoFar}
use Rattle.mix_tool.proofs.check.report_files.Given as goal

-- the files before those that are left were opened and reported
abbrev pub invariant-loop-rest : goal.invariant-loop-rest
invariant-loop-rest g l = record {
  same : g.O.Opener.holds l.files ≡ g.O.Opener.holds l.fn.files;
  so_far : (all : Files) → g.O.Opener.holds l.fn.files ≡ Some all
      → SoFar all l.json (map string_bytes l.fn.sources) (map string_bytes l.rest) (g.O.Opener.asked l.fn.files) (g.O.Opener.asked l.files) l.reports;
}

abbrev pub decreases-loop-rest : goal.decreases-loop-rest
decreases-loop-rest g l = length l.rest
