-- One typed line more: what was done before and what is done now is what all do.
use Rattle.std.proofs.Common.{◌∙◌, ◌++◌, [], ap, append_assoc, refl, sym}
use Rattle.mix_lines.specs.Lines.{lines}
use Rattle.mix_run.specs.Stretch.{typed_line}
use Rattle.mix_run.proofs.HearingLemmas.{Knows-line}
use Rattle.mix_run.proofs.RunLemmas.{nil-from_length}
use Rattle.mix_run.proofs.StretchLemmas.{Answered-nothing, line-begun, line-over, line-then, lines-done}
use Rattle.mix_run.proofs.Written.{AppendsFront-all}
use Rattle.mix_run.proofs.talk.heard.answer_text.Goals as goal

pub loop-rest-init : goal.loop-rest-init
loop-rest-init g c = record {
  answered = ([], refl, λ all known. Answered-nothing _ _ _ _ refl refl);
  failed = refl;
  unasked = refl;
  held = refl;
  untouched = λ e. refl;
}

pub loop-rest-preserved : goal.loop-rest-preserved
loop-rest-preserved g c =
    let so_far = c.loop-rest.invariant.answered in
    let cut = so_far.1 ∙ ap (λ l. so_far.0 ++ l) c.split_line.ensures.lines in
    let typed = c.in_ok-now.ensures in
    record {
      answered = (
        _,
        cut ∙ sym (append_assoc so_far.0 _ (lines c.split_line.result.1.now)),
        λ all known. line-then (typed_line all c.args.talker) _ _ so_far.0 _ _ _ (so_far.2 all known) _ _ _ _ _ _ _ c.and-told.ensures c.if-now.false
            (typed.answered all (Knows-line _ _ all c.args.talker so_far.0 _ _ _ c.loop-rest.invariant.held cut known)),
      );
      failed = typed.write.1 (λ e. cc) ∙ c.loop-rest.invariant.failed;
      unasked = typed.unasked ∙ c.loop-rest.invariant.unasked;
      held = typed.held ∙ c.loop-rest.invariant.held;
      untouched = λ e. typed.untouched e ∙ c.loop-rest.invariant.untouched e;
    }

pub returns-in_err-now-clause-begun : goal.returns-in_err-now-clause-begun
returns-in_err-now-clause-begun g c all known =
    let so_far = c.loop-rest.invariant.answered in
    let cut = so_far.1 ∙ ap (λ l. so_far.0 ++ l) c.split_line.ensures.lines in
    line-begun (typed_line all c.args.talker) _ _ so_far.0 _ _ _ (so_far.2 all known) _ _ _ cut _
    (c.answer_typed.ensures.begun all (Knows-line _ _ all c.args.talker so_far.0 _ _ _ c.loop-rest.invariant.held cut known))

pub returns-then-now-clause-answered : goal.returns-then-now-clause-answered
returns-then-now-clause-answered g c all known =
    let so_far = c.loop-rest.invariant.answered in
    let cut = so_far.1 ∙ ap (λ l. so_far.0 ++ l) c.split_line.ensures.lines in
    line-over (typed_line all c.args.talker) _ _ so_far.0 _ _ _ (so_far.2 all known) _ _ _ cut _ _ _ _ _ c.and-told.ensures c.if-now.true
    (c.in_ok-now.ensures.answered all (Knows-line _ _ all c.args.talker so_far.0 _ _ _ c.loop-rest.invariant.held cut known))

pub returns-then-now-clause-begun : goal.returns-then-now-clause-begun
returns-then-now-clause-begun g c all known = AppendsFront-all _ _ _ (returns-then-now-clause-answered g c all known).written

pub returns-clause-answered : goal.returns-clause-answered
returns-clause-answered g c all known =
    let so_far = c.loop-rest.invariant.answered in
    let none = nil-from_length _ (sym c.loop-rest-test.false ∙ c.is_empty.ensures) in
    lines-done (typed_line all c.args.talker) _ _ so_far.0 _ _ _ _ _ so_far.1 none (so_far.2 all known)

pub returns-clause-begun : goal.returns-clause-begun
returns-clause-begun g c all known = AppendsFront-all _ _ _ (returns-clause-answered g c all known).written
