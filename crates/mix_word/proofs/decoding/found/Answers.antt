use Rattle.std.proofs.Common.{sym}
use Rattle.mix_word.proofs.TableLemmas.{names}
use Rattle.mix_word.proofs.decoding.found.Goals as goal

pub returns : goal.returns
returns c = sym (names c.args.op c.args.code c.args.f c.requires.code c.requires.by_f c.requires.plain)
