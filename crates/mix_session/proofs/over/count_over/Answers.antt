-- A step more, or the last one.
use Rattle.std.proofs.Common.{◌≡◌, ◌+◌, ◌==◌, ℕ, Bool, false, true, refl, ap, sym, ◌∙◌, subst, arith}
use Rattle.mix_machine.specs.Prelude.{WorldState}
use Rattle.mix_session.specs.Over.{calls_after}
use Rattle.mix_session.proofs.OverLemmas.{IsGoing, ends-back, ends-by, ends-fault, ends-halt, going-begins, going-next}
use Rattle.mix_session.proofs.over.count_over.Goals as goal

-- the location of the first machine is that of its copy
counted : (start copied : WorldState) (from at after calls : ℕ) (next world : WorldState) → copied ≡ start → from ≡ copied.loc → at ≡ world.loc
    → after ≡ calls_after from at next calls → after ≡ calls_after start.loc world.loc next calls
counted start copied from at after calls next world same loc there is =
    is ∙ ap (λ f. calls_after f at next calls) (loc ∙ ap (λ (w : WorldState). w.loc) same) ∙ ap (λ a. calls_after start.loc a next calls) there

pub loop-done-init : goal.loop-done-init
loop-done-init c = subst (λ (w : WorldState). IsGoing c.args.start.now w c.args.most 0 0) (sym c.in_ok-world.ensures) (going-begins c.args.start.now c.args.most c.requires)

pub overflow_add-done : goal.overflow_add-done
overflow_add-done c = omega (arith, c.loop-done.invariant.within)

pub returns-then-next_is_halt : goal.returns-then-next_is_halt
returns-then-next_is_halt c =
    ends-halt c.args.start.now c.loop-done.world c.args.most c.loop-done.done c.loop-done.calls c.next_is_halt.result c.loop-done.invariant
    c.next_is_halt.ensures c.if-next_is_halt.true

pub returns-in-Err-Fault : goal.returns-in-Err-Fault
returns-in-Err-Fault c =
    ends-fault c.args.start.now c.loop-done.world c.args.most c.loop-done.done c.loop-done.calls c.next_is_halt.result _ c.loop-done.invariant
    c.next_is_halt.ensures c.if-next_is_halt.false (rw c.in-Err-Fault.field-0-is at c.in-Err-Fault.ensures.fault)

pub calls_after-calls-requires-clause-few : goal.calls_after-calls-requires-clause-few
calls_after-calls-requires-clause-few c = omega (arith, c.loop-done.invariant.few, c.loop-done-test.true)

pub returns-then-calls-eq0 : goal.returns-then-calls-eq0
returns-then-calls-eq0 c =
    ends-back c.args.start.now c.loop-done.world c.apply.new.self c.args.most c.loop-done.done c.loop-done.calls c.calls_after-calls.result c.next_is_halt.result
    c.loop-done.invariant c.next_is_halt.ensures c.if-next_is_halt.false c.in-Ok.ensures.given
    (counted c.args.start.now c.in_ok-world.world c.loc-from.result c.loc-at.result c.calls_after-calls.result c.loop-done.calls c.apply.new.self c.loop-done.world
    c.in_ok-world.ensures c.loc-from.ensures.is c.loc-at.ensures.is c.calls_after-calls.ensures.is)
    c.if-calls-eq0.true

pub loop-done-preserved : goal.loop-done-preserved
loop-done-preserved c =
    going-next c.args.start.now c.loop-done.world c.apply.new.self c.args.most c.loop-done.done c.loop-done.calls c.calls_after-calls.result c.next_is_halt.result
    c.loop-done.invariant (omega (arith, c.loop-done-test.true)) c.next_is_halt.ensures c.if-next_is_halt.false c.in-Ok.ensures.given
    (counted c.args.start.now c.in_ok-world.world c.loc-from.result c.loc-at.result c.calls_after-calls.result c.loop-done.calls c.apply.new.self c.loop-done.world
    c.in_ok-world.ensures c.loc-from.ensures.is c.loc-at.ensures.is c.calls_after-calls.ensures.is)
    c.calls_after-calls.ensures.few c.if-calls-eq0.false

pub returns : goal.returns
returns c =
    ends-by c.args.start.now c.loop-done.world c.args.most c.loop-done.done c.loop-done.calls c.args.most c.loop-done.invariant
    (λ below. omega (arith, below, c.loop-done-test.false)) refl
