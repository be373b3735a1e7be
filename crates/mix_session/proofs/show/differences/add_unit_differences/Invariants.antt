use Rattle.std.proofs.Common.{◌≡◌, ◌++◌, take, flat_map}
use Rattle.mix_session.specs.Differences.{unit_difference_text}
use Rattle.mix_session.proofs.show.differences.add_unit_differences.Given as goal

abbrev pub invariant-loop-difference : goal.invariant-loop-difference
invariant-loop-difference l = l.text.items ≡ l.initial.text.items ++ flat_map unit_difference_text (take l.difference-index l.list)
