-- A step more, or none.
use Rattle.std.proofs.Common.{◌≡◌, ◌++◌, [], false, inl, inr, refl, subst, arith}
use Rattle.mix_machine.specs.Prelude.{IsWorld, is_plain_next}
use Rattle.mix_machine.proofs.StepsLemmas.{plan_in, stepped, refused, why-told}
use Rattle.mix_machine.proofs.EndingLemmas.{carried-after, pass-more, some-done}
use Rattle.mix_machine.specs.Fault.{answer_of}
use Rattle.mix_machine.proofs.world.World.run_told.Goals as goal

pub loop-done-preserved : goal.loop-done-preserved
loop-done-preserved c = record {
  within = omega (arith, c.loop-done-test.true);
  did = pass-more (λ _. false) c.args.self.now c.loop-done.self c.step_of_word-answer.new.self c.in-Some.word c.loop-done.done c.step_of_word-answer.result
      (omega (arith, c.if-answer-ne0.false)) c.loop-done.invariant.did (λ some. c.in-Some.ensures.0) (subst IsWorld c.self.view_is c.self.invariant)
      c.in-Some.ensures.2 c.step_of_word-answer.ensures;
  first = λ none. absurd (omega (arith, none));
}

pub returns-in-None : goal.returns-in-None
returns-in-None c =
    let did = c.loop-done.invariant.did in (
      did.0,
      stepped (λ _. false) c.args.most c.loop-done.done c.args.self.now c.loop-done.self [] did.0 _ c.told.ensures c.loop-done.invariant.within
          (some-done c.loop-done.done (is_plain_next c.loop-done.self) c.loop-done.invariant.first c.in-None.ensures) (inr c.in-None.ensures) (did.0, refl, did.1),
    )

pub returns-then-answer-ne0 : goal.returns-then-answer-ne0
returns-then-answer-ne0 c =
    let did = c.loop-done.invariant.did in
    let carried = c.step_of_word-answer.ensures in (
      did.0 ++ carried.0,
      refused (λ _. false) c.args.most c.loop-done.done c.args.self.now c.loop-done.self c.step_of_word-answer.new.self c.in-Some.word [] did.0
          (did.0 ++ carried.0) _ (why-told c.step_of_word-answer.result c.if-answer-ne0.true) c.loop-done-test.true (did.0, refl, did.1) (λ some. c.in-Some.ensures.0)
          c.in-Some.ensures.2 (carried-after (plan_in c.loop-done.self c.in-Some.word) c.loop-done.self c.step_of_word-answer.new.self did.0 carried.0
          (answer_of c.step_of_word-answer.result) carried.1),
    )

pub returns : goal.returns
returns c =
    let did = c.loop-done.invariant.did in
    let all : c.loop-done.done ≡ c.args.most = omega (arith, c.loop-done-test.false, c.loop-done.invariant.within) in (
      did.0,
      stepped (λ _. false) c.args.most c.loop-done.done c.args.self.now c.loop-done.self [] did.0 _ c.told-2.ensures
          c.loop-done.invariant.within (omega (arith, c.loop-done-test.false, c.requires.some)) (inl all) (did.0, refl, did.1),
    )
