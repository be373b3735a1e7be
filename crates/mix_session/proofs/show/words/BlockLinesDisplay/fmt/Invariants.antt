use Rattle.std.proofs.Common.{◌≤◌, length, flat_map}
use Rattle.std.specs.Fmt.{HasWritten, IsPlainFormatter}
use Rattle.std.specs.List.{range_with_len}
use Rattle.mix_session.specs.ShowUnit.{block_word_text}
use Rattle.mix_session.proofs.show.words.BlockLinesDisplay.fmt.Given as goal

abbrev pub invariant-loop-j : goal.invariant-loop-j
invariant-loop-j g l = record {
  within : l.j ≤ length l.self.0.now;
  text : IsPlainFormatter l.initial.f →
      HasWritten g.W.Write.write_str_gives l.initial.f (flat_map (block_word_text l.self.0.now) (range_with_len 0 l.j)) l.f;
}
