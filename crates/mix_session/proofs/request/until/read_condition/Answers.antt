-- No word may be left after a condition alone.
use Rattle.std.proofs.Common.{◌∙◌, ap, sym}
use Rattle.mix_session.specs.Operand.{no_word}
use Rattle.mix_session.proofs.ReadingLemmas.{alone_bad, alone_ok}
use Rattle.mix_session.proofs.request.until.read_condition.Goals as goal

pub returns-in-Ok : goal.returns-in-Ok
returns-in-Ok g c =
    c.read_first-condition.ensures.condition ∙ alone_ok (g.N.Names.names c.args.names.now) c.args.here c.args.words.now
    (ap no_word (sym c.read_first-condition.ensures.left) ∙ sym c.no_word.ensures ∙ c.in-Ok.is)

pub returns-in-Err : goal.returns-in-Err
returns-in-Err g c =
    alone_bad (g.N.Names.names c.args.names.now) c.args.here c.args.words.now _
    (ap no_word (sym c.read_first-condition.ensures.left) ∙ sym c.no_word.ensures ∙ c.in-Err.is)
