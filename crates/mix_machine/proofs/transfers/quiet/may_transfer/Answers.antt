-- Only IOC, IN and OUT make anything of a transfer.
use Rattle.std.proofs.Common.{sym, ◌∙◌}
use Rattle.mix_machine.proofs.QuietLemmas.{no-transfer}
use Rattle.mix_machine.proofs.transfers.quiet.may_transfer.Goals as goal

pub returns-in-Some-clause-still : goal.returns-in-Some-clause-still
returns-in-Some-clause-still c = λ e. no-transfer c.args.world.now c.code_at-code.result c.decode_law.ensures c.code_at-code.ensures (sym c.is_of_transfers.ensures ∙ e)
