use Rattle.std.proofs.Common.{arith}
use Rattle.mixal_text.proofs.OpLemmas.{long_name}
use Rattle.mixal_text.proofs.op.Mnemonic.of.Goals as goal

pub returns-then-name-gt-MAX_LETTERS : goal.returns-then-name-gt-MAX_LETTERS
returns-then-name-gt-MAX_LETTERS c = long_name c.long_name_law.ensures c.args.name.now (omega arith)
