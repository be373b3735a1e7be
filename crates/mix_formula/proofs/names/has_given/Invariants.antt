use Rattle.std.proofs.Common.{◌≡◌, length}
use Rattle.mix_formula.specs.Names.{all_named, has_given}
use Rattle.mix_formula.proofs.names.has_given.Given as goal

abbrev pub invariant-loop-rest : goal.invariant-loop-rest
invariant-loop-rest l = has_given (all_named l.rest) l.line ≡ has_given (all_named l.fn.names) l.line

abbrev pub decreases-loop-rest : goal.decreases-loop-rest
decreases-loop-rest l = length l.rest
