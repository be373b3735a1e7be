-- The run of a plan is that of its texts.
use Rattle.std.proofs.Common.{List, ℕ, ap, subst, sym, ◌∙◌}
use Rattle.mix_tool.specs.Ending.{Creates}
use Rattle.mix_tool.specs.Plan.{creates_of}
use Rattle.mix_tool.proofs.CheckLemmas.{asks-nothing}
use Rattle.mix_tool.proofs.SavingLemmas.{some-same}
use Rattle.mix_tool.proofs.plan.run_on.Goals as goal

pub returns-in-Bundle-clause-done : goal.returns-in-Bundle-clause-done
returns-in-Bundle-clause-done g c all given e holds =
    rw c.in-Bundle.is (λ b there. (c.run_bundle-outcome.result, c.run_bundle-outcome.ensures.output b there, c.status.ensures.status))

pub returns-in-List-clause-done : goal.returns-in-List-clause-done
returns-in-List-clause-done g c all given e holds =
    rw c.in-List.is (c.run_list-outcome.result, c.run_list-outcome.ensures.output given.source holds.source, c.status-in-List.ensures.status)

pub returns-in-Typeset-clause-done : goal.returns-in-Typeset-clause-done
returns-in-Typeset-clause-done g c all given e holds = rw c.in-Typeset.is tt

pub returns-in-Debug-clause-opened : goal.returns-in-Debug-clause-opened
returns-in-Debug-clause-opened g c all e = rw (c.in-Debug.is, c.debug_on.ensures.unasked) (asks-nothing _)

pub returns-in-Debug-clause-done : goal.returns-in-Debug-clause-done
returns-in-Debug-clause-done g c all given e holds = rw c.in-Debug.is (c.debug_on.ensures.runs all given e holds)

pub returns-in-Run-clause-opened : goal.returns-in-Run-clause-opened
returns-in-Run-clause-opened g c all e = rw (c.in-Run.is, c.run_texts.ensures.unread.0) (asks-nothing _)

pub returns-in-Run-clause-done : goal.returns-in-Run-clause-done
returns-in-Run-clause-done g c all given e holds = rw c.in-Run.is (c.run_texts.ensures.done all given e holds)

pub returns-in-Run-clause-created : goal.returns-in-Run-clause-created
returns-in-Run-clause-created g c names e =
    let same = some-same _ names (sym (ap creates_of c.in-Run.is) ∙ e) in
    subst (λ (l : List (List ℕ)). Creates l c.run_texts.result (g.O.Opener.created c.args.files.now) (g.O.Opener.created c.run_texts.new.files)) same
    c.run_texts.ensures.created

pub returns-in-Run-clause-saved : goal.returns-in-Run-clause-saved
returns-in-Run-clause-saved g c given holds = rw c.in-Run.is (c.run_texts.ensures.saved given holds)
