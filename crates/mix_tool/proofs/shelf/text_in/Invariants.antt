use Rattle.std.proofs.Common.{◌≡◌, length}
use Rattle.mix_tool.specs.Shelf.{text_in}
use Rattle.mix_tool.proofs.shelf.text_in.Given as goal

-- the file is the first of its name among those that are left
abbrev pub invariant-loop-rest : goal.invariant-loop-rest
invariant-loop-rest l = text_in l.fn.files l.fn.name ≡ text_in l.rest l.fn.name

abbrev pub decreases-loop-rest : goal.decreases-loop-rest
decreases-loop-rest l = length l.rest
