use Rattle.std.proofs.Common.{◌≡◌, length}
use Rattle.mix_formula.specs.Text.{unblanked}
use Rattle.mix_formula.proofs.text.unblanked.Given as goal

abbrev pub invariant-loop-rest : goal.invariant-loop-rest
invariant-loop-rest l = unblanked l.rest ≡ unblanked l.fn.text

abbrev pub decreases-loop-rest : goal.decreases-loop-rest
decreases-loop-rest l = length l.rest
