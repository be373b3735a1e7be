use Rattle.std.proofs.Common.{◌≡◌, take}
use Rattle.mix_session.specs.Differences.{cells_in}
use Rattle.mix_session.proofs.show.differences.cells_in.Given as goal

abbrev pub invariant-loop-part : goal.invariant-loop-part
invariant-loop-part l = l.cells.items ≡ cells_in (take l.part-index l.parts)
