use Rattle.std.proofs.Common.{◌≡◌, ◌≤◌, ◌++◌, map, min}
use Rattle.std.specs.List.{filter, range_with_len}
use Rattle.mix_session.specs.Altered.{part_of, is_altered}
use Rattle.mix_session.proofs.altered.add_numbered.Given as goal

abbrev pub invariant-loop-number : goal.invariant-loop-number
invariant-loop-number l =
    l.parts.items ≡ l.initial.parts.items ++ filter (is_altered l.worlds.before.now l.worlds.after.now) (map (part_of l.kind) (range_with_len 0 (min l.number l.fn.numbers.end)))
