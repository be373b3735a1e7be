-- Each change is one more from where the run began, so the ends are those of the world that the journal stands in.
use Rattle.std.proofs.Common.{◌≡◌, ◌∙◌, ◌<◌, ◌+◌, ◌-◌, ap, sym, arith}
use Rattle.mix_session.specs.Prelude.{end_of_more, Timeline}
use Rattle.mix_session.proofs.CommandLemmas.{end_at-last, end_at-limit, end_at-more, moved_once-first, none_before-next, before-run, if_err}
use Rattle.mix_session.proofs.GoingLemmas.{going-begins, going-left, going-many, going-once}
use Rattle.mix_session.proofs.RunLemmas.{AreMarks-length}
use Rattle.mix_session.proofs.command.runs.run_on.Goals as goal

pub many_of-many-requires : goal.many_of-many-requires
many_of-many-requires c =
    AreMarks-length _ _ _ c.requires.marks

pub loop-done-init : goal.loop-done-init
loop-done-init c =
    going-begins c.args.way c.args.stops.now c.args.journal.now c.args.most c.args.marks.now c.args.known.now c.many_of-many.result _ c.state.ensures c.requires.marks c.requires.known c.many_of-many.ensures

pub plain_steps-plain-requires : goal.plain_steps-plain-requires
plain_steps-plain-requires c =
    AreMarks-length _ _ _ c.loop-done.invariant.marked

pub returns-in_err-end-clause-first : goal.returns-in_err-end-clause-first
returns-in_err-end-clause-first c =
    (going-left c.mark_law.ensures.altered c.change_law.ensures.breaks c.change_law.ensures.world c.args.way c.args.stops.now c.args.journal.now c.loop-done.journal c.plain_steps-plain.new.journal c.args.most c.loop-done.done c.plain_steps-plain.result.0
    _ c.loop-done.known c.many_of-many.result c.loop-done.invariant c.plain_steps-plain.ensures.steps (rw c.in_err-end.was at c.plain_steps-plain.ensures.left)).0

pub returns-in_err-end-clause-memory : goal.returns-in_err-end-clause-memory
returns-in_err-end-clause-memory c =
    let left = going-left c.mark_law.ensures.altered c.change_law.ensures.breaks c.change_law.ensures.world c.args.way c.args.stops.now c.args.journal.now c.loop-done.journal c.plain_steps-plain.new.journal c.args.most c.loop-done.done c.plain_steps-plain.result.0
    _ c.loop-done.known c.many_of-many.result c.loop-done.invariant c.plain_steps-plain.ensures.steps (rw c.in_err-end.was at c.plain_steps-plain.ensures.left) in
    if_err c.from_residual.result _ left.1

pub returns-in-Some-clause-first : goal.returns-in-Some-clause-first
returns-in-Some-clause-first c =
    let many = going-many c.mark_law.ensures.altered c.change_law.ensures.breaks c.change_law.ensures.world c.args.way c.args.stops.now c.args.journal.now c.loop-done.journal c.plain_steps-plain.new.journal c.args.most c.loop-done.done c.plain_steps-plain.result.0
    _ _ c.loop-done.known c.many_of-many.result _ c.loop-done.invariant c.plain_steps-plain.ensures.steps (omega (arith, c.plain_steps-plain.ensures.within, c.loop-done-test.true))
    (rw c.in_ok-end.was at c.plain_steps-plain.ensures.end) in
    many.first

pub returns-in-Some-clause-moved : goal.returns-in-Some-clause-moved
returns-in-Some-clause-moved c =
    let many = going-many c.mark_law.ensures.altered c.change_law.ensures.breaks c.change_law.ensures.world c.args.way c.args.stops.now c.args.journal.now c.loop-done.journal c.plain_steps-plain.new.journal c.args.most c.loop-done.done c.plain_steps-plain.result.0
    _ _ c.loop-done.known c.many_of-many.result _ c.loop-done.invariant c.plain_steps-plain.ensures.steps (omega (arith, c.plain_steps-plain.ensures.within, c.loop-done-test.true))
    (rw c.in_ok-end.was at c.plain_steps-plain.ensures.end) in
    many.moved

pub returns-in-Some-clause-end : goal.returns-in-Some-clause-end
returns-in-Some-clause-end c =
    let many = going-many c.mark_law.ensures.altered c.change_law.ensures.breaks c.change_law.ensures.world c.args.way c.args.stops.now c.args.journal.now c.loop-done.journal c.plain_steps-plain.new.journal c.args.most c.loop-done.done c.plain_steps-plain.result.0
    _ _ c.loop-done.known c.many_of-many.result _ c.loop-done.invariant c.plain_steps-plain.ensures.steps (omega (arith, c.plain_steps-plain.ensures.within, c.loop-done-test.true))
    (rw c.in_ok-end.was at c.plain_steps-plain.ensures.end) in
    end_at-last c.args.way c.args.stops.now c.args.journal.now c.args.most (c.loop-done.done + c.plain_steps-plain.result.0) _ (many.last ∙ c.in-Some.is)

pub returns-in-Some-clause-least : goal.returns-in-Some-clause-least
returns-in-Some-clause-least c =
    let many = going-many c.mark_law.ensures.altered c.change_law.ensures.breaks c.change_law.ensures.world c.args.way c.args.stops.now c.args.journal.now c.loop-done.journal c.plain_steps-plain.new.journal c.args.most c.loop-done.done c.plain_steps-plain.result.0
    _ _ c.loop-done.known c.many_of-many.result _ c.loop-done.invariant c.plain_steps-plain.ensures.steps (omega (arith, c.plain_steps-plain.ensures.within, c.loop-done-test.true))
    (rw c.in_ok-end.was at c.plain_steps-plain.ensures.end) in
    many.before

pub returns-then-done-most-clause-first : goal.returns-then-done-most-clause-first
returns-then-done-most-clause-first c =
    let many = going-many c.mark_law.ensures.altered c.change_law.ensures.breaks c.change_law.ensures.world c.args.way c.args.stops.now c.args.journal.now c.loop-done.journal c.plain_steps-plain.new.journal c.args.most c.loop-done.done c.plain_steps-plain.result.0
    _ _ c.loop-done.known c.many_of-many.result _ c.loop-done.invariant c.plain_steps-plain.ensures.steps (omega (arith, c.plain_steps-plain.ensures.within, c.loop-done-test.true))
    (rw c.in_ok-end.was at c.plain_steps-plain.ensures.end) in
    many.first

pub returns-then-done-most-clause-moved : goal.returns-then-done-most-clause-moved
returns-then-done-most-clause-moved c =
    let many = going-many c.mark_law.ensures.altered c.change_law.ensures.breaks c.change_law.ensures.world c.args.way c.args.stops.now c.args.journal.now c.loop-done.journal c.plain_steps-plain.new.journal c.args.most c.loop-done.done c.plain_steps-plain.result.0
    _ _ c.loop-done.known c.many_of-many.result _ c.loop-done.invariant c.plain_steps-plain.ensures.steps (omega (arith, c.plain_steps-plain.ensures.within, c.loop-done-test.true))
    (rw c.in_ok-end.was at c.plain_steps-plain.ensures.end) in
    let all : c.loop-done.done + c.plain_steps-plain.result.0 ≡ c.args.most = omega (arith, c.if-done-most.true) in
    rw all at many.moved

pub returns-then-done-most-clause-end : goal.returns-then-done-most-clause-end
returns-then-done-most-clause-end c =
    let many = going-many c.mark_law.ensures.altered c.change_law.ensures.breaks c.change_law.ensures.world c.args.way c.args.stops.now c.args.journal.now c.loop-done.journal c.plain_steps-plain.new.journal c.args.most c.loop-done.done c.plain_steps-plain.result.0
    _ _ c.loop-done.known c.many_of-many.result _ c.loop-done.invariant c.plain_steps-plain.ensures.steps (omega (arith, c.plain_steps-plain.ensures.within, c.loop-done-test.true))
    (rw c.in_ok-end.was at c.plain_steps-plain.ensures.end) in
    let all : c.loop-done.done + c.plain_steps-plain.result.0 ≡ c.args.most = omega (arith, c.if-done-most.true) in
    end_at-limit c.args.way c.args.stops.now c.args.journal.now c.args.most (rw all at (many.last ∙ c.in-None.is))

pub returns-then-done-most-clause-least : goal.returns-then-done-most-clause-least
returns-then-done-most-clause-least c =
    let many = going-many c.mark_law.ensures.altered c.change_law.ensures.breaks c.change_law.ensures.world c.args.way c.args.stops.now c.args.journal.now c.loop-done.journal c.plain_steps-plain.new.journal c.args.most c.loop-done.done c.plain_steps-plain.result.0
    _ _ c.loop-done.known c.many_of-many.result _ c.loop-done.invariant c.plain_steps-plain.ensures.steps (omega (arith, c.plain_steps-plain.ensures.within, c.loop-done-test.true))
    (rw c.in_ok-end.was at c.plain_steps-plain.ensures.end) in
    let all : c.loop-done.done + c.plain_steps-plain.result.0 ≡ c.args.most = omega (arith, c.if-done-most.true) in
    rw all at many.before

pub returns-in-Ok-Some-clause-first : goal.returns-in-Ok-Some-clause-first
returns-in-Ok-Some-clause-first c =
    let many = going-many c.mark_law.ensures.altered c.change_law.ensures.breaks c.change_law.ensures.world c.args.way c.args.stops.now c.args.journal.now c.loop-done.journal c.plain_steps-plain.new.journal c.args.most c.loop-done.done c.plain_steps-plain.result.0
    _ _ c.loop-done.known c.many_of-many.result _ c.loop-done.invariant c.plain_steps-plain.ensures.steps (omega (arith, c.plain_steps-plain.ensures.within, c.loop-done-test.true))
    (rw c.in_ok-end.was at c.plain_steps-plain.ensures.end) in
    let going = many.going c.in-None.is in
    let has = rw c.in-Ok-Some.field-0-is at c.in-Ok-Some.ensures.moved in
    ap (λ (t : Timeline). t.first) has.0 ∙ going.first

pub returns-in-Ok-Some-clause-moved : goal.returns-in-Ok-Some-clause-moved
returns-in-Ok-Some-clause-moved c =
    let many = going-many c.mark_law.ensures.altered c.change_law.ensures.breaks c.change_law.ensures.world c.args.way c.args.stops.now c.args.journal.now c.loop-done.journal c.plain_steps-plain.new.journal c.args.most c.loop-done.done c.plain_steps-plain.result.0
    _ _ c.loop-done.known c.many_of-many.result _ c.loop-done.invariant c.plain_steps-plain.ensures.steps (omega (arith, c.plain_steps-plain.ensures.within, c.loop-done-test.true))
    (rw c.in_ok-end.was at c.plain_steps-plain.ensures.end) in
    let going = many.going c.in-None.is in
    let has = rw c.in-Ok-Some.field-0-is at c.in-Ok-Some.ensures.moved in
    has.0 ∙ going.moved

pub returns-in-Ok-Some-clause-end : goal.returns-in-Ok-Some-clause-end
returns-in-Ok-Some-clause-end c =
    let many = going-many c.mark_law.ensures.altered c.change_law.ensures.breaks c.change_law.ensures.world c.args.way c.args.stops.now c.args.journal.now c.loop-done.journal c.plain_steps-plain.new.journal c.args.most c.loop-done.done c.plain_steps-plain.result.0
    _ _ c.loop-done.known c.many_of-many.result _ c.loop-done.invariant c.plain_steps-plain.ensures.steps (omega (arith, c.plain_steps-plain.ensures.within, c.loop-done-test.true))
    (rw c.in_ok-end.was at c.plain_steps-plain.ensures.end) in
    let going = many.going c.in-None.is in
    let below : c.loop-done.done + c.plain_steps-plain.result.0 < c.args.most = omega (arith, c.plain_steps-plain.ensures.within, c.loop-done-test.true, c.if-done-most.false) in
    let has = rw c.in-Ok-Some.field-0-is at c.in-Ok-Some.ensures.moved in
    end_at-more c.args.way c.args.stops.now c.args.journal.now c.plain_steps-plain.new.journal c.args.most (c.loop-done.done + c.plain_steps-plain.result.0) going.going below going.moved ∙ has.1

pub returns-in-Ok-Some-clause-least : goal.returns-in-Ok-Some-clause-least
returns-in-Ok-Some-clause-least c =
    let many = going-many c.mark_law.ensures.altered c.change_law.ensures.breaks c.change_law.ensures.world c.args.way c.args.stops.now c.args.journal.now c.loop-done.journal c.plain_steps-plain.new.journal c.args.most c.loop-done.done c.plain_steps-plain.result.0
    _ _ c.loop-done.known c.many_of-many.result _ c.loop-done.invariant c.plain_steps-plain.ensures.steps (omega (arith, c.plain_steps-plain.ensures.within, c.loop-done-test.true))
    (rw c.in_ok-end.was at c.plain_steps-plain.ensures.end) in
    let going = many.going c.in-None.is in
    going.before

pub returns-in-Err-clause-first : goal.returns-in-Err-clause-first
returns-in-Err-clause-first c =
    let many = going-many c.mark_law.ensures.altered c.change_law.ensures.breaks c.change_law.ensures.world c.args.way c.args.stops.now c.args.journal.now c.loop-done.journal c.plain_steps-plain.new.journal c.args.most c.loop-done.done c.plain_steps-plain.result.0
    _ _ c.loop-done.known c.many_of-many.result _ c.loop-done.invariant c.plain_steps-plain.ensures.steps (omega (arith, c.plain_steps-plain.ensures.within, c.loop-done-test.true))
    (rw c.in_ok-end.was at c.plain_steps-plain.ensures.end) in
    let going = many.going c.in-None.is in
    ap (λ (t : Timeline). t.first) c.in-Err.ensures.memory ∙ going.first

pub returns-in-Err-clause-memory : goal.returns-in-Err-clause-memory
returns-in-Err-clause-memory c =
    let many = going-many c.mark_law.ensures.altered c.change_law.ensures.breaks c.change_law.ensures.world c.args.way c.args.stops.now c.args.journal.now c.loop-done.journal c.plain_steps-plain.new.journal c.args.most c.loop-done.done c.plain_steps-plain.result.0
    _ _ c.loop-done.known c.many_of-many.result _ c.loop-done.invariant c.plain_steps-plain.ensures.steps (omega (arith, c.plain_steps-plain.ensures.within, c.loop-done-test.true))
    (rw c.in_ok-end.was at c.plain_steps-plain.ensures.end) in
    let going = many.going c.in-None.is in
    let below : c.loop-done.done + c.plain_steps-plain.result.0 < c.args.most = omega (arith, c.plain_steps-plain.ensures.within, c.loop-done-test.true, c.if-done-most.false) in
    before-run c.args.way c.args.stops.now c.args.journal.now _ c.args.most (c.loop-done.done + c.plain_steps-plain.result.0) (c.in-Err.ensures.memory ∙ going.moved) below going.going (ap (end_of_more c.args.way) c.in-Err.ensures.memory ∙ c.in-Err.ensures.more) going.before

pub end_of_move-requires : goal.end_of_move-requires
end_of_move-requires c =
    let many = going-many c.mark_law.ensures.altered c.change_law.ensures.breaks c.change_law.ensures.world c.args.way c.args.stops.now c.args.journal.now c.loop-done.journal c.plain_steps-plain.new.journal c.args.most c.loop-done.done c.plain_steps-plain.result.0
    _ _ c.loop-done.known c.many_of-many.result _ c.loop-done.invariant c.plain_steps-plain.ensures.steps (omega (arith, c.plain_steps-plain.ensures.within, c.loop-done-test.true))
    (rw c.in_ok-end.was at c.plain_steps-plain.ensures.end) in
    let going = many.going c.in-None.is in
    AreMarks-length _ _ _ going.marked

pub returns-in-Some-end_of_move-clause-first : goal.returns-in-Some-end_of_move-clause-first
returns-in-Some-end_of_move-clause-first c =
    let many = going-many c.mark_law.ensures.altered c.change_law.ensures.breaks c.change_law.ensures.world c.args.way c.args.stops.now c.args.journal.now c.loop-done.journal c.plain_steps-plain.new.journal c.args.most c.loop-done.done c.plain_steps-plain.result.0
    _ _ c.loop-done.known c.many_of-many.result _ c.loop-done.invariant c.plain_steps-plain.ensures.steps (omega (arith, c.plain_steps-plain.ensures.within, c.loop-done-test.true))
    (rw c.in_ok-end.was at c.plain_steps-plain.ensures.end) in
    let going = many.going c.in-None.is in
    let has = rw c.in-Ok-None.field-0-is at c.in-Ok-None.ensures.moved in
    ap (λ (t : Timeline). t.first) has.0 ∙ moved_once-first c.args.way c.plain_steps-plain.new.journal ∙ going.first

pub returns-in-Some-end_of_move-clause-moved : goal.returns-in-Some-end_of_move-clause-moved
returns-in-Some-end_of_move-clause-moved c =
    let many = going-many c.mark_law.ensures.altered c.change_law.ensures.breaks c.change_law.ensures.world c.args.way c.args.stops.now c.args.journal.now c.loop-done.journal c.plain_steps-plain.new.journal c.args.most c.loop-done.done c.plain_steps-plain.result.0
    _ _ c.loop-done.known c.many_of-many.result _ c.loop-done.invariant c.plain_steps-plain.ensures.steps (omega (arith, c.plain_steps-plain.ensures.within, c.loop-done-test.true))
    (rw c.in_ok-end.was at c.plain_steps-plain.ensures.end) in
    let going = many.going c.in-None.is in
    let below : c.loop-done.done + c.plain_steps-plain.result.0 < c.args.most = omega (arith, c.plain_steps-plain.ensures.within, c.loop-done-test.true, c.if-done-most.false) in
    let has = rw c.in-Ok-None.field-0-is at c.in-Ok-None.ensures.moved in
    let more = going-once c.mark_law.ensures.altered c.change_law.ensures.breaks c.args.way c.args.stops.now c.args.journal.now c.plain_steps-plain.new.journal c.move_once.new.journal
    c.args.most (c.loop-done.done + c.plain_steps-plain.result.0) _ _ _ _ _ _ _ _ c.many_of-many.result going below c.state-in-loop-done.ensures
    c.state-in-loop-done-2.ensures has c.end_of_move.ensures.marks c.is_halt_done-halts.ensures c.look_on-conflicts.ensures.waits
    c.look_on-conflicts.ensures.last c.look_on-conflicts.ensures.looks in
    more.moved

pub returns-in-Some-end_of_move-clause-end : goal.returns-in-Some-end_of_move-clause-end
returns-in-Some-end_of_move-clause-end c =
    let many = going-many c.mark_law.ensures.altered c.change_law.ensures.breaks c.change_law.ensures.world c.args.way c.args.stops.now c.args.journal.now c.loop-done.journal c.plain_steps-plain.new.journal c.args.most c.loop-done.done c.plain_steps-plain.result.0
    _ _ c.loop-done.known c.many_of-many.result _ c.loop-done.invariant c.plain_steps-plain.ensures.steps (omega (arith, c.plain_steps-plain.ensures.within, c.loop-done-test.true))
    (rw c.in_ok-end.was at c.plain_steps-plain.ensures.end) in
    let going = many.going c.in-None.is in
    let below : c.loop-done.done + c.plain_steps-plain.result.0 < c.args.most = omega (arith, c.plain_steps-plain.ensures.within, c.loop-done-test.true, c.if-done-most.false) in
    let has = rw c.in-Ok-None.field-0-is at c.in-Ok-None.ensures.moved in
    let more = going-once c.mark_law.ensures.altered c.change_law.ensures.breaks c.args.way c.args.stops.now c.args.journal.now c.plain_steps-plain.new.journal c.move_once.new.journal
    c.args.most (c.loop-done.done + c.plain_steps-plain.result.0) _ _ _ _ _ _ _ _ c.many_of-many.result going below c.state-in-loop-done.ensures
    c.state-in-loop-done-2.ensures has c.end_of_move.ensures.marks c.is_halt_done-halts.ensures c.look_on-conflicts.ensures.waits
    c.look_on-conflicts.ensures.last c.look_on-conflicts.ensures.looks in
    end_at-last c.args.way c.args.stops.now c.args.journal.now c.args.most (c.loop-done.done + c.plain_steps-plain.result.0 + 1) _ (more.last ∙ sym c.end_of_move.ensures.end ∙ c.in-Some-end_of_move.is)

pub returns-in-Some-end_of_move-clause-least : goal.returns-in-Some-end_of_move-clause-least
returns-in-Some-end_of_move-clause-least c =
    let many = going-many c.mark_law.ensures.altered c.change_law.ensures.breaks c.change_law.ensures.world c.args.way c.args.stops.now c.args.journal.now c.loop-done.journal c.plain_steps-plain.new.journal c.args.most c.loop-done.done c.plain_steps-plain.result.0
    _ _ c.loop-done.known c.many_of-many.result _ c.loop-done.invariant c.plain_steps-plain.ensures.steps (omega (arith, c.plain_steps-plain.ensures.within, c.loop-done-test.true))
    (rw c.in_ok-end.was at c.plain_steps-plain.ensures.end) in
    let going = many.going c.in-None.is in
    let below : c.loop-done.done + c.plain_steps-plain.result.0 < c.args.most = omega (arith, c.plain_steps-plain.ensures.within, c.loop-done-test.true, c.if-done-most.false) in
    let has = rw c.in-Ok-None.field-0-is at c.in-Ok-None.ensures.moved in
    none_before-next c.args.way c.args.stops.now c.args.journal.now c.plain_steps-plain.new.journal c.args.most (c.loop-done.done + c.plain_steps-plain.result.0) going.going below going.moved has.1 going.before

pub loop-done-preserved : goal.loop-done-preserved
loop-done-preserved c =
    let many = going-many c.mark_law.ensures.altered c.change_law.ensures.breaks c.change_law.ensures.world c.args.way c.args.stops.now c.args.journal.now c.loop-done.journal c.plain_steps-plain.new.journal c.args.most c.loop-done.done c.plain_steps-plain.result.0
    _ _ c.loop-done.known c.many_of-many.result _ c.loop-done.invariant c.plain_steps-plain.ensures.steps (omega (arith, c.plain_steps-plain.ensures.within, c.loop-done-test.true))
    (rw c.in_ok-end.was at c.plain_steps-plain.ensures.end) in
    let going = many.going c.in-None.is in
    let below : c.loop-done.done + c.plain_steps-plain.result.0 < c.args.most = omega (arith, c.plain_steps-plain.ensures.within, c.loop-done-test.true, c.if-done-most.false) in
    let has = rw c.in-Ok-None.field-0-is at c.in-Ok-None.ensures.moved in
    let more = going-once c.mark_law.ensures.altered c.change_law.ensures.breaks c.args.way c.args.stops.now c.args.journal.now c.plain_steps-plain.new.journal c.move_once.new.journal
    c.args.most (c.loop-done.done + c.plain_steps-plain.result.0) _ _ _ _ _ _ _ _ c.many_of-many.result going below c.state-in-loop-done.ensures
    c.state-in-loop-done-2.ensures has c.end_of_move.ensures.marks c.is_halt_done-halts.ensures c.look_on-conflicts.ensures.waits
    c.look_on-conflicts.ensures.last c.look_on-conflicts.ensures.looks in
    more.going (sym c.end_of_move.ensures.end ∙ c.in-None-end_of_move.is)

pub returns-clause-end : goal.returns-clause-end
returns-clause-end c =
    let all : c.loop-done.done ≡ c.args.most = omega arith in
    end_at-limit c.args.way c.args.stops.now c.args.journal.now c.args.most (rw all at c.loop-done.invariant.going)
