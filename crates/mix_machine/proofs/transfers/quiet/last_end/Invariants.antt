use Rattle.std.proofs.Common.{◌≡◌, drop, max}
use Rattle.mix_machine.specs.Transfers.{last_end}
use Rattle.mix_machine.proofs.transfers.quiet.last_end.Given as goal

abbrev pub invariant-loop-number : goal.invariant-loop-number
invariant-loop-number l = max l.last (last_end (drop l.number l.list)) ≡ last_end l.list
