use Rattle.std.proofs.Common.{◌≡◌, length}
use Rattle.mix_formula.specs.Names.{all_named, value_in}
use Rattle.mix_formula.proofs.names.value_in.Given as goal

abbrev pub invariant-loop-rest : goal.invariant-loop-rest
invariant-loop-rest l = value_in (all_named l.rest) l.name ≡ value_in (all_named l.fn.names) l.name

abbrev pub decreases-loop-rest : goal.decreases-loop-rest
decreases-loop-rest l = length l.rest
