use Rattle.std.proofs.Common.{◌≡◌, ◌++◌, take, flat_map}
use Rattle.mix_session.specs.Differences.{column_text}
use Rattle.mix_session.proofs.show.differences.add_columns.Given as goal

abbrev pub invariant-loop-part : goal.invariant-loop-part
invariant-loop-part l =
    l.text.items ≡ l.initial.text.items ++ flat_map (λ p. column_text l.worlds.before.now l.worlds.after.now p l.cells) (take l.part-index l.parts)
