use Rattle.std.proofs.Common.{◌≡◌, take, map}
use Rattle.mix_machine.specs.Prelude.{kinds, empty_unit}
use Rattle.mix_machine.proofs.units.Units.empty.Given as goal

abbrev pub invariant-loop-kind : goal.invariant-loop-kind
invariant-loop-kind l = l.list.items ≡ map empty_unit (take l.kind-index kinds)
