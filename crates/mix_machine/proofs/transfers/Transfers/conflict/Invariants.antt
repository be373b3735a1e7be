use Rattle.std.proofs.Common.{◌≡◌, drop}
use Rattle.mix_machine.specs.Transfers.{conflict_from}
use Rattle.mix_machine.proofs.transfers.Transfers.conflict.Given as goal

abbrev pub invariant-loop-number : goal.invariant-loop-number
invariant-loop-number l = conflict_from 0 l.self l.access ≡ conflict_from l.number (drop l.number l.self) l.access
