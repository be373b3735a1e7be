-- The change leads from the state before it to the one after it, whose marks tell whether one of the conditions is met.
use Rattle.std.proofs.Common.{◌∙◌}
use Rattle.mix_session.proofs.KnownLemmas.{forth_known}
use Rattle.mix_session.proofs.RunLemmas.{AreMarks-length}
use Rattle.mix_session.proofs.UntilLemmas.{forth_by_marks, forth_by-led, marks_after}
use Rattle.mix_session.proofs.command.until.step_forth.Goals as goal

pub first_met-requires : goal.first_met-requires
first_met-requires c = AreMarks-length _ _ _ c.requires.marks

pub returns-clause-met : goal.returns-clause-met
returns-clause-met c =
    let led = forth_by-led c.args.journal.now c.forth.new.self c.in_ok-forth.ensures.first c.in_ok-forth.ensures.changes c.in_ok-forth.ensures.ahead in
    let known = forth_known c.args.watched.now c.args.journal.now c.forth.new.self c.next_change-change.result _ c.args.known.now c.look_ahead-conflicts.new.self c.look_ahead-conflicts.result c.requires.known c.requires.some led c.next_change-change.ensures
    c.state-before.ensures c.look_ahead-conflicts.ensures.waits c.look_ahead-conflicts.ensures.looks in
    c.is_some.ensures ∙ forth_by_marks c.mark_law.ensures.altered c.args.watched.now c.args.journal.now c.forth.new.self _ _ _ _ _ c.requires.some led
    c.state-before.ensures c.state-after.ensures known.0 c.requires.marks c.first_met.ensures.first

pub returns-clause-after : goal.returns-clause-after
returns-clause-after c = marks_after c.args.watched.now c.forth.new.self _ _ c.state-after.ensures c.first_met.ensures.marks

pub returns-clause-knows : goal.returns-clause-knows
returns-clause-knows c =
    let led = forth_by-led c.args.journal.now c.forth.new.self c.in_ok-forth.ensures.first c.in_ok-forth.ensures.changes c.in_ok-forth.ensures.ahead in
    (forth_known c.args.watched.now c.args.journal.now c.forth.new.self c.next_change-change.result _ c.args.known.now c.look_ahead-conflicts.new.self c.look_ahead-conflicts.result c.requires.known c.requires.some led c.next_change-change.ensures
    c.state-before.ensures c.look_ahead-conflicts.ensures.waits c.look_ahead-conflicts.ensures.looks).1
