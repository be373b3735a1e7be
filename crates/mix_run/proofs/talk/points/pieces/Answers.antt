-- All points were looked at.
use Rattle.std.proofs.Common.{◌++◌, ◌∙◌, ap, sym}
use Rattle.std.proofs.lemmas.List.{append-nil}
use Rattle.mix_lines.specs.Lines.{lines, lines-nil}
use Rattle.mix_run.specs.Points.{pieces}
use Rattle.mix_run.proofs.RunLemmas.{nil-from_length}
use Rattle.mix_run.proofs.talk.points.pieces.Goals as goal

pub returns : goal.returns
returns c =
    let none = nil-from_length _ (sym c.loop-rest-test.false ∙ c.is_empty.ensures) in
    let left = ap (λ t. pieces c.args.session.now c.args.taken.now (lines t)) none ∙ ap (pieces c.args.session.now c.args.taken.now) lines-nil in
    sym (ap (λ t. c.loop-rest.text.items ++ t) left ∙ append-nil c.loop-rest.text.items) ∙ c.loop-rest.invariant
