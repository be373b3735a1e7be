-- The reply that is written is the answer.
use Rattle.std.proofs.Common.{◌∙◌, refl}
use Rattle.mix_run.proofs.HearingLemmas.{moment-is}
use Rattle.mix_run.proofs.Written.{Appends-same}
use Rattle.mix_run.proofs.talk.heard.answer_line.Goals as goal

pub returns-clause-answered : goal.returns-clause-answered
returns-clause-answered g c d =
    let now = c.in_ok-reply.ensures in
    record {
      moment = moment-is _ _ now.session now.recall now.origin;
      told = now.said.1;
      over = now.over;
      written = Appends-same _ _ _ _ (c.deref.ensures.value ∙ now.said.0) c.in_ok-write_all.ensures.written;
      saved = refl;
    }
