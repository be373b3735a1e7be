use Rattle.std.proofs.Common.{◌≡◌, ◌+◌, ◌≤◌, length}
use Rattle.mix_lines.specs.Lines.{lines}
use Rattle.mix_machine.specs.units.deck.Deck.{lines_from}
use Rattle.mix_machine.proofs.units.deck.read_lines.Given as goal

abbrev pub invariant-loop-rest : goal.invariant-loop-rest
invariant-loop-rest l = record {
  read : lines_from l.headers l.line l.reader (lines l.rest) ≡ lines_from l.headers 1 l.initial.reader (lines l.text);
  counted : l.line + length l.rest ≤ 33554433;
}

abbrev pub decreases-loop-rest : goal.decreases-loop-rest
decreases-loop-rest l = length l.rest
