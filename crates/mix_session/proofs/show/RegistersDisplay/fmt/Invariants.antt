use Rattle.std.proofs.Common.{flat_map, take}
use Rattle.std.specs.Fmt.{HasWritten, IsPlainFormatter}
use Rattle.mix_word.specs.Register.{all_registers}
use Rattle.mix_session.specs.Show.{register_line}
use Rattle.mix_session.proofs.show.RegistersDisplay.fmt.Given as goal

abbrev pub invariant-loop-register : goal.invariant-loop-register
invariant-loop-register g l =
    IsPlainFormatter l.initial.f →
    HasWritten g.W.Write.write_str_gives l.initial.f (flat_map (register_line l.self.0.now) (take l.register-index all_registers)) l.f
