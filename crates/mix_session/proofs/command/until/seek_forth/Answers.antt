-- Each change done again is one more from where the loop began.
use Rattle.std.proofs.Common.{◌≡◌, ◌+◌, ◌∙◌, ap, arith, below_more, false, refl, sym}
use Rattle.mix_session.specs.Prelude.{is_reached_forth, Timeline, forth_by}
use Rattle.mix_session.proofs.CommandLemmas.{if_err}
use Rattle.mix_session.proofs.TimelineLemmas.{forth_by-none}
use Rattle.mix_session.proofs.UntilLemmas.{ahead-left, back-forth, forth_by-one, reached_forth-at, forth_until-found, forth_until-none, sought-end, before-forth, Begun-forth, effect-err, forth-length}
use Rattle.mix_session.proofs.command.until.seek_forth.Goals as goal

pub loop-done-init : goal.loop-done-init
loop-done-init c = record { forth = forth_by-none c.args.journal.now; none = λ j below. absurd (omega (arith, below)); marks = c.requires.marks; knows = c.requires.known }

pub step_forth-requires-clause-some : goal.step_forth-requires-clause-some
step_forth-requires-clause-some c = ahead-left c.args.journal.now _ c.loop-done.done (omega (arith, c.ahead-all.ensures, c.loop-done-test.true)) c.loop-done.invariant.forth

pub returns-in_err-step_forth-clause-effect : goal.returns-in_err-step_forth-clause-effect
returns-in_err-step_forth-clause-effect c =
    let now : c.step_forth.new.journal ≡ forth_by c.args.journal.now c.loop-done.done = c.in_err-step_forth.ensures.memory ∙ c.loop-done.invariant.forth in
    effect-err _ c.args.journal.now c.step_forth.new.journal _ c.from_residual.ensures.0 (ap (λ (t : Timeline). t.first) now)
    (Begun-forth c.args.watched.now c.args.journal.now _ c.loop-done.done (omega (arith, c.ahead-all.ensures, c.loop-done-test.true)) now c.loop-done.invariant.none)

pub returns-then-branch-clause-effect : goal.returns-then-branch-clause-effect
returns-then-branch-clause-effect c =
    let next : c.step_forth.new.journal ≡ forth_by c.args.journal.now (c.loop-done.done + 1) =
    c.in_ok-step_forth.ensures.forth ∙ ap (λ (t : Timeline). forth_by t 1) c.loop-done.invariant.forth ∙ forth_by-one c.args.journal.now c.loop-done.done in
    let here = ap (λ (t : Timeline). is_reached_forth c.args.watched.now t 0) c.loop-done.invariant.forth ∙ reached_forth-at c.args.watched.now c.args.journal.now c.loop-done.done in
    rw (forth_until-found c.args.watched.now c.args.journal.now c.loop-done.done (omega (arith, c.ahead-all.ensures, c.loop-done-test.true))
    (sym here ∙ sym c.in_ok-step_forth.ensures.met ∙ c.if-branch.true) c.loop-done.invariant.none) (ap (λ (t : Timeline). t.first) next, next, refl)

pub loop-done-preserved : goal.loop-done-preserved
loop-done-preserved c =
    let here = ap (λ (t : Timeline). is_reached_forth c.args.watched.now t 0) c.loop-done.invariant.forth ∙ reached_forth-at c.args.watched.now c.args.journal.now c.loop-done.done in
    record {
      forth = c.in_ok-step_forth.ensures.forth ∙ ap (λ (t : Timeline). forth_by t 1) c.loop-done.invariant.forth ∙ forth_by-one c.args.journal.now c.loop-done.done;
      none = below_more (λ j. is_reached_forth c.args.watched.now c.args.journal.now j ≡ false) c.loop-done.done c.loop-done.invariant.none
          (sym here ∙ sym c.in_ok-step_forth.ensures.met ∙ c.if-branch.false);
      marks = c.in_ok-step_forth.ensures.after;
      knows = c.in_ok-step_forth.ensures.knows;
    }

pub go_back-requires : goal.go_back-requires
go_back-requires c =
    let all : c.loop-done.done ≡ c.ahead-all.result = omega (arith, c.loop-done-test.false, c.loop-done.auto.done-end) in
    rw all at (forth-length c.args.journal.now _ c.loop-done.done (omega (arith, all, c.ahead-all.ensures)) c.loop-done.invariant.forth)

pub returns-clause-effect : goal.returns-clause-effect
returns-clause-effect c =
    let all : c.loop-done.done ≡ c.ahead-all.result = omega (arith, c.loop-done-test.false, c.loop-done.auto.done-end) in
    let there : c.go_back.new.journal ≡ c.args.journal.now =
    c.go_back.ensures ∙ rw (← all, c.loop-done.invariant.forth) (back-forth c.args.journal.now c.loop-done.done (omega (arith, all, c.ahead-all.ensures))) in
    rw (forth_until-none c.args.watched.now c.args.journal.now c.loop-done.done (all ∙ c.ahead-all.ensures) c.loop-done.invariant.none)
    (ap (λ (t : Timeline). t.first) there, there ∙ sought-end c.args.journal.now, refl)

pub returns-in_err-step_forth-clause-memory : goal.returns-in_err-step_forth-clause-memory
returns-in_err-step_forth-clause-memory c =
    let now : c.step_forth.new.journal ≡ forth_by c.args.journal.now c.loop-done.done = c.in_err-step_forth.ensures.memory ∙ c.loop-done.invariant.forth in
    if_err c.from_residual.result _
    (before-forth c.args.watched.now c.args.journal.now _ c.loop-done.done (omega (arith, c.ahead-all.ensures, c.loop-done-test.true)) now c.loop-done.invariant.none)
