use Rattle.std.proofs.Common.{◌≡◌, ◌+◌, ◌-◌, ◌*◌, ◌++◌, vec_len}
use Rattle.mix_machine.specs.units.deck.Block.{words_from}
use Rattle.mix_machine.proofs.units.deck.reader.unit_line.push_columns.Given as goal

abbrev pub invariant-loop-i : goal.invariant-loop-i
invariant-loop-i l = record {
  read : l.list.items ++ words_from (l.count - l.i) (5 * l.i) l.text ≡ l.initial.list.items ++ words_from l.count 0 l.text;
  len : vec_len l.list ≡ vec_len l.initial.list + l.i;
}
