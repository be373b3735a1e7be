use Rattle.std.proofs.Common.{◌≡◌, ◌++◌, length}
use Rattle.mix_shown.specs.declared.character.Among.TheVariants.{Line}
use Rattle.mix_shown.specs.Character.{shown_from}
use Rattle.mix_shown.proofs.character.add_shown.Given as goal

abbrev pub invariant-loop-rest : goal.invariant-loop-rest
invariant-loop-rest l = l.text.items ++ shown_from Line l.left l.rest ≡ l.fn.text.items ++ shown_from Line 0 l.fn.line

abbrev pub decreases-loop-rest : goal.decreases-loop-rest
decreases-loop-rest l = length l.rest
