use Rattle.std.proofs.Common.{◌≡◌, ◌+◌, ◌-◌, ◌≤◌, ◌++◌, flat_map}
use Rattle.std.specs.List.{range_with_len}
use Rattle.mix_session.proofs.show.lines.add_lines.Given as goal

abbrev pub invariant-loop-number : goal.invariant-loop-number
invariant-loop-number g l = record {
  within : l.number ≤ l.first + (l.end - l.first);
  text : l.text.items ≡ l.initial.text.items ++ flat_map (g.L.Lines.line l.lines) (range_with_len l.first (l.number - l.first));
}
