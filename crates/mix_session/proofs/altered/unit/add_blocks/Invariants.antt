use Rattle.std.proofs.Common.{◌≡◌, ◌≤◌, ◌++◌, length, min, flat_map}
use Rattle.std.specs.List.{range_with_len}
use Rattle.mix_session.specs.Altered.{if_other_block}
use Rattle.mix_session.proofs.altered.unit.add_blocks.Given as goal

abbrev pub invariant-loop-number : goal.invariant-loop-number
invariant-loop-number l = record {
  within : l.number ≤ min (length l.before.blocks) (length l.after.blocks);
  list : l.list.items ≡ l.initial.list.items ++ flat_map (if_other_block l.before l.after) (range_with_len 0 l.number);
}
