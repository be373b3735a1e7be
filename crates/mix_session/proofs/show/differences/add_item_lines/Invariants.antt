use Rattle.std.proofs.Common.{◌≡◌, ◌++◌, take}
use Rattle.mix_session.specs.Differences.{lines_text}
use Rattle.mix_session.proofs.show.differences.add_item_lines.Given as goal

abbrev pub invariant-loop-part : goal.invariant-loop-part
invariant-loop-part l = l.text.items ≡ l.initial.text.items ++ lines_text l.worlds.before.now l.worlds.after.now (take l.part-index l.parts)
