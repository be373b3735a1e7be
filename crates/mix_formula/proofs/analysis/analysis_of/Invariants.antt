use Rattle.std.proofs.Common.{◌≡◌, map, take}
use Rattle.mix_formula.specs.Judged.{judged_by, judged_seen}
use Rattle.mix_formula.specs.Prelude.{all_named, all_rows}
use Rattle.mix_formula.proofs.analysis.analysis_of.Given as goal

-- the lines so far
abbrev pub invariant-loop-row : goal.invariant-loop-row
invariant-loop-row l = map judged_seen l.lines.items ≡ map (judged_by (all_named l.values.items)) (all_rows (take l.row-index l.rows))
