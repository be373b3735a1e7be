use Rattle.std.proofs.Common.{◌≡◌, ◌++◌, take}
use Rattle.std.specs.List.{filter}
use Rattle.mix_session.specs.Altered.{is_altered}
use Rattle.mix_session.proofs.altered.add_each.Given as goal

abbrev pub invariant-loop-part : goal.invariant-loop-part
invariant-loop-part l =
    l.parts.items ≡ l.initial.parts.items ++ filter (is_altered l.worlds.before.now l.worlds.after.now) (take l.part-index l.among)
