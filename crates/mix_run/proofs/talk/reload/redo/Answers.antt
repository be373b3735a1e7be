-- One line more is done again.
use Rattle.std.proofs.Common.{◌∙◌, ap, sym}
use Rattle.mix_lines.specs.Lines.{lines, lines-nil}
use Rattle.mix_run.specs.Asked.{after_lines}
use Rattle.mix_run.proofs.RunLemmas.{nil-from_length}
use Rattle.mix_run.proofs.talk.reload.redo.Goals as goal

pub loop-rest-preserved : goal.loop-rest-preserved
loop-rest-preserved c =
    ap (λ s. after_lines s (lines c.split_line.result.1.now)) c.in_ok-redo_line.ensures
    ∙ sym (ap (after_lines c.loop-rest.session) c.split_line.ensures.lines) ∙ c.loop-rest.invariant

pub returns : goal.returns
returns c =
    let none = nil-from_length _ (sym c.loop-rest-test.false ∙ c.is_empty.ensures) in
    sym (ap (λ t. after_lines c.loop-rest.session (lines t)) none ∙ ap (after_lines c.loop-rest.session) lines-nil) ∙ c.loop-rest.invariant
