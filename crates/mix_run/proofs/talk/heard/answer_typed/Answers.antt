-- A typed line was answered, or the lines of the file that it sources were; or what was done was saved, or the source was reloaded.
use Rattle.std.proofs.Common.{◌∙◌, ap, refl, sym}
use Rattle.mix_lines.specs.Lines.{lines}
use Rattle.mix_run.specs.Reload.{moment_of}
use Rattle.mix_run.specs.Sources.{reads_by}
use Rattle.mix_run.proofs.HearingLemmas.{answered-source, known-of}
use Rattle.mix_run.proofs.Written.{Appends-nothing}
use Rattle.mix_run.proofs.talk.heard.answer_typed.Goals as goal

pub returns-in-Answer-clause-answered : goal.returns-in-Answer-clause-answered
returns-in-Answer-clause-answered g c all known = rw (sym c.act_of.ensures ∙ c.in-Answer.is) (c.answer_line.ensures.answered _)

pub returns-in-Answer-clause-begun : goal.returns-in-Answer-clause-begun
returns-in-Answer-clause-begun g c all known = rw (sym c.act_of.ensures ∙ c.in-Answer.is) c.answer_line.ensures.begun

pub returns-in-Source-clause-answered : goal.returns-in-Source-clause-answered
returns-in-Source-clause-answered g c all known =
    let is = sym c.act_of.ensures ∙ c.in-Source.is in
    let held = known-of _ all c.args.talker c.args.line.now (ap reads_by is) known in
    answered-source _ _ _ _ all c.args.talker c.args.moment.now _ c.args.line.now _ c.answer_lines.result is c.in_ok-text-in-Source.ensures.unsaved
    (ap lines c.deref-in-Source.ensures.value ∙ c.in_ok-text-in-Source.ensures.text all held) (c.answer_lines.ensures.answered _)

pub returns-in-Source-clause-begun : goal.returns-in-Source-clause-begun
returns-in-Source-clause-begun g c all known =
    let is = sym c.act_of.ensures ∙ c.in-Source.is in
    let held = known-of _ all c.args.talker c.args.line.now (ap reads_by is) known in
    rw (is, sym (ap lines c.deref-in-Source.ensures.value ∙ c.in_ok-text-in-Source.ensures.text all held)) c.answer_lines.ensures.begun

pub returns-in-Save-clause-answered : goal.returns-in-Save-clause-answered
returns-in-Save-clause-answered g c all known =
    rw (sym c.act_of.ensures ∙ c.in-Save.is) (record {
      moment = ap (λ r. moment_of c.args.moment.now.session r c.args.moment.now.origin) c.repeat_nothing.ensures;
      told = refl;
      over = refl;
      written = Appends-nothing _;
      saved = c.in_ok-save-in-Save.ensures.saved;
    })

pub returns-clause-answered : goal.returns-clause-answered
returns-clause-answered g c all known =
    let is = sym c.act_of.ensures ∙ c.in-Reload.is in
    let held = known-of _ all c.args.talker c.args.line.now (ap reads_by is) known in
    rw is (record {
      moment = c.in_ok-reload-in-Reload.ensures.reloaded all held;
      told = refl;
      over = refl;
      written = Appends-nothing _;
      saved = c.in_ok-reload-in-Reload.ensures.unsaved;
    })
