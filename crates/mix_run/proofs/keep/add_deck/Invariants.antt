use Rattle.std.proofs.Common.{◌≡◌, ◌≤◌, ◌-◌, ◌++◌, flat_map}
use Rattle.std.specs.List.{range_with_len}
use Rattle.mix_word.specs.Uses.{unit_count}
use Rattle.mix_run.specs.Keep.{kept_at}
use Rattle.mix_run.proofs.keep.add_deck.Given as goal

-- the parts so far, and those that are left, are all parts
abbrev pub invariant-loop-number : goal.invariant-loop-number
invariant-loop-number l = record {
  within : l.number ≤ unit_count;
  text : l.text.items ++ flat_map (kept_at l.world) (range_with_len l.number (unit_count - l.number))
      ≡ l.fn.text.items ++ flat_map (kept_at l.world) (range_with_len 0 unit_count);
}

abbrev pub decreases-loop-number : goal.decreases-loop-number
decreases-loop-number l = unit_count - l.number
