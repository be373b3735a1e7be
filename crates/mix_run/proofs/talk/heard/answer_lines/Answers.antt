-- One line more: what was answered before and what is answered now is the answer to all.
use Rattle.std.proofs.Common.{◌∙◌, ◌++◌, [], None, ap, append_assoc, refl, sym}
use Rattle.mix_lines.specs.Lines.{lines}
use Rattle.mix_run.specs.Stretch.{answer_of}
use Rattle.mix_run.proofs.RunLemmas.{nil-from_length}
use Rattle.mix_run.proofs.StretchLemmas.{Answered-nothing, line-begun, line-over, line-then, lines-done}
use Rattle.mix_run.proofs.Written.{AppendsFront-all}
use Rattle.mix_run.proofs.talk.heard.answer_lines.Goals as goal

pub loop-rest-init : goal.loop-rest-init
loop-rest-init g c = record { answered = ([], refl, λ d. Answered-nothing _ _ _ _ refl refl); failed = refl }

pub loop-rest-preserved : goal.loop-rest-preserved
loop-rest-preserved g c =
    let so_far = c.loop-rest.invariant.answered in
    let now = c.in_ok-now.ensures in
    record {
      answered = (
        _,
        so_far.1 ∙ ap (λ l. so_far.0 ++ l) c.split_line.ensures.lines ∙ sym (append_assoc so_far.0 _ (lines c.split_line.result.1.now)),
        λ d. line-then (answer_of c.args.talker) _ _ so_far.0 _ _ _ (so_far.2 d) _ _ _ _ _ _ _ c.and-told.ensures c.if-now.false (now.answered d),
      );
      failed = now.write.1 (λ e. cc) ∙ c.loop-rest.invariant.failed;
    }

pub returns-in_err-now-clause-begun : goal.returns-in_err-now-clause-begun
returns-in_err-now-clause-begun g c =
    let so_far = c.loop-rest.invariant.answered in
    line-begun (answer_of c.args.talker) _ _ so_far.0 _ _ _ (so_far.2 None) _ _ _
    (so_far.1 ∙ ap (λ l. so_far.0 ++ l) c.split_line.ensures.lines) _ c.answer_line.ensures.begun

pub returns-then-now-clause-answered : goal.returns-then-now-clause-answered
returns-then-now-clause-answered g c d =
    let so_far = c.loop-rest.invariant.answered in
    line-over (answer_of c.args.talker) _ _ so_far.0 _ _ _ (so_far.2 d) _ _ _
    (so_far.1 ∙ ap (λ l. so_far.0 ++ l) c.split_line.ensures.lines) _ _ _ _ _ c.and-told.ensures c.if-now.true (c.in_ok-now.ensures.answered d)

pub returns-then-now-clause-begun : goal.returns-then-now-clause-begun
returns-then-now-clause-begun g c = AppendsFront-all _ _ _ (returns-then-now-clause-answered g c None).written

pub returns-clause-answered : goal.returns-clause-answered
returns-clause-answered g c d =
    let so_far = c.loop-rest.invariant.answered in
    let none = nil-from_length _ (sym c.loop-rest-test.false ∙ c.is_empty.ensures) in
    lines-done (answer_of c.args.talker) _ _ so_far.0 _ _ _ _ _ so_far.1 none (so_far.2 d)

pub returns-clause-begun : goal.returns-clause-begun
returns-clause-begun g c = AppendsFront-all _ _ _ (returns-clause-answered g c None).written
