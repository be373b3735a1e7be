use Rattle.std.proofs.Common.{◌≡◌, flat_map, take}
use Rattle.mix_word.specs.Register.{all_registers}
use Rattle.mix_session.specs.ShowValue.{register_values}
use Rattle.mix_session.proofs.show.values.register_value_lines.Given as goal

abbrev pub invariant-loop-register : goal.invariant-loop-register
invariant-loop-register l = l.text.items ≡ flat_map (register_values l.world) (take l.register-index all_registers)
