use Rattle.std.proofs.Common.{◌≡◌, take}
use Rattle.mix_machine.proofs.units.Units.copied.Given as goal

abbrev pub invariant-loop-unit : goal.invariant-loop-unit
invariant-loop-unit l = record {
  items : l.list.items ≡ take l.unit-index l.unit-items;
}
