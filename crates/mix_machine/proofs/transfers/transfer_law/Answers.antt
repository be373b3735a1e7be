use Rattle.std.proofs.Common.{arith}
use Rattle.mix_machine.proofs.ConflictLemmas.{all-over}
use Rattle.mix_machine.proofs.TransferTimes.{ends}
use Rattle.mix_machine.proofs.UnwrittenLemmas.{unwritten}
use Rattle.mix_machine.proofs.transfers.transfer_law.Goals as goal

pub returns : goal.returns
returns c = record { until = ends; written = unwritten; apart = λ ts w c l. all-over ts w c w.clock l (omega arith) }
