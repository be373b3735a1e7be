use Rattle.std.proofs.Common.{◌+◌, ◌-◌, ◌≤◌, flat_map}
use Rattle.std.specs.Fmt.{HasWritten, IsPlainFormatter}
use Rattle.std.specs.List.{range_with_len}
use Rattle.mix_session.proofs.show.each.EachDisplay.fmt.Given as goal

abbrev pub invariant-loop-number : goal.invariant-loop-number
invariant-loop-number g l = record {
  within : l.number ≤ l.self.first + (l.self.end - l.self.first);
  text : IsPlainFormatter l.initial.f →
      HasWritten g.W.Write.write_str_gives l.initial.f (flat_map (g.K.Numbered.text l.self.of.now) (range_with_len l.self.first (l.number - l.self.first))) l.f;
}
