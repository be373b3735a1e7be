-- A step more, or none.
use Rattle.std.proofs.Common.{◌≡◌, ◌+◌, inl, inr, refl, subst, arith}
use Rattle.mix_machine.specs.Prelude.{IsWorld, ends_if}
use Rattle.std.specs.Option.{option_map}
use Rattle.mix_machine.proofs.StepsLemmas.{step-more, stepped, refused, why-told}
use Rattle.mix_machine.proofs.world.World.steps_from.Goals as goal

pub returns-then-answer-ne0 : goal.returns-then-answer-ne0
returns-then-answer-ne0 c =
    refused (ends_if (option_map (λ w. w.now) c.args.watch)) c.args.most c.loop-done.done c.args.self.now c.loop-done.self c.step_of_word-answer.new.self c.loop-done.word c.args.kept.now.items c.loop-done.kept.items
    c.step_of_word-answer.new.end.items _ (why-told c.step_of_word-answer.result c.if-answer-ne0.true) c.loop-done-test.true c.loop-done.invariant.did c.loop-done.invariant.going
    c.loop-done.invariant.word c.step_of_word-answer.ensures

pub loop-done-preserved : goal.loop-done-preserved
loop-done-preserved c = record {
  within = omega (arith, c.loop-done-test.true);
  did = step-more (ends_if (option_map (λ w. w.now) c.args.watch)) c.args.self.now c.loop-done.self c.step_of_word-answer.new.self c.loop-done.word c.args.kept.now.items c.loop-done.kept.items c.step_of_word-answer.new.end.items c.loop-done.done
      c.step_of_word-answer.result (omega (arith, c.if-answer-ne0.false)) c.loop-done.invariant.did c.loop-done.invariant.going (subst IsWorld c.self.view_is c.self.invariant)
      c.loop-done.invariant.word c.step_of_word-answer.ensures;
  going = λ some. rw (← c.is_ended.ensures, c.if-is_ended.false, c.in-Some.ensures.0) refl;
  cell = c.in-Some.ensures.1;
  word = c.in-Some.ensures.2;
}

pub returns-then-is_ended : goal.returns-then-is_ended
returns-then-is_ended c =
    stepped (ends_if (option_map (λ w. w.now) c.args.watch)) c.args.most (c.loop-done.done + 1) c.args.self.now c.step_of_word-answer.new.self c.args.kept.now.items c.step_of_word-answer.new.end.items _ c.told.ensures
    (omega (arith, c.loop-done-test.true)) (omega arith) (inr (rw (← c.is_ended.ensures, c.if-is_ended.true) refl))
    (step-more (ends_if (option_map (λ w. w.now) c.args.watch)) c.args.self.now c.loop-done.self c.step_of_word-answer.new.self c.loop-done.word c.args.kept.now.items c.loop-done.kept.items c.step_of_word-answer.new.end.items c.loop-done.done
    c.step_of_word-answer.result (omega (arith, c.if-answer-ne0.false)) c.loop-done.invariant.did c.loop-done.invariant.going (subst IsWorld c.self.view_is c.self.invariant)
    c.loop-done.invariant.word c.step_of_word-answer.ensures)

pub returns-in-None : goal.returns-in-None
returns-in-None c =
    stepped (ends_if (option_map (λ w. w.now) c.args.watch)) c.args.most (c.loop-done.done + 1) c.args.self.now c.step_of_word-answer.new.self c.args.kept.now.items c.step_of_word-answer.new.end.items _ c.told-in-None.ensures
    (omega (arith, c.loop-done-test.true)) (omega arith) (inr (rw (← c.is_ended.ensures, c.if-is_ended.false, c.in-None.ensures) refl))
    (step-more (ends_if (option_map (λ w. w.now) c.args.watch)) c.args.self.now c.loop-done.self c.step_of_word-answer.new.self c.loop-done.word c.args.kept.now.items c.loop-done.kept.items c.step_of_word-answer.new.end.items c.loop-done.done
    c.step_of_word-answer.result (omega (arith, c.if-answer-ne0.false)) c.loop-done.invariant.did c.loop-done.invariant.going (subst IsWorld c.self.view_is c.self.invariant)
    c.loop-done.invariant.word c.step_of_word-answer.ensures)

pub returns : goal.returns
returns c =
    let all : c.loop-done.done ≡ c.args.most = omega (arith, c.loop-done-test.false, c.loop-done.invariant.within) in
    stepped (ends_if (option_map (λ w. w.now) c.args.watch)) c.args.most c.loop-done.done c.args.self.now c.loop-done.self c.args.kept.now.items c.loop-done.kept.items _ c.told-2.ensures
    c.loop-done.invariant.within (omega (arith, c.loop-done-test.false, c.requires.some)) (inl all) c.loop-done.invariant.did
