-- A session by a script and one by the lines of the input are those of the texts that were opened.
use Rattle.std.proofs.Common.{◌∙◌, ap, inl}
use Rattle.mix_tool.specs.Ending.{status_of_run}
use Rattle.mix_tool.proofs.EndingLemmas.{run_range, run_well}
use Rattle.mix_tool.proofs.debug.debug_on.Goals as goal

pub returns-in-Some-clause-range : goal.returns-in-Some-clause-range
returns-in-Some-clause-range g c =
    run_range c.run_debug-outcome.result c.status.result c.status.ensures.status c.run_debug-outcome.ensures.ends

pub returns-in-Some-clause-written : goal.returns-in-Some-clause-written
returns-in-Some-clause-written g c n =
    c.run_debug-outcome.ensures.write.1 (λ w. n (c.status.ensures.status ∙ ap status_of_run w))

pub returns-in-Some-clause-quiet : goal.returns-in-Some-clause-quiet
returns-in-Some-clause-quiet g c talks n =
    run_well c.run_debug-outcome.result c.status.result _ c.status.ensures.status n c.status.ensures.quiet

pub returns-in-Some-clause-runs : goal.returns-in-Some-clause-runs
returns-in-Some-clause-runs g c all given e holds =
    let met = c.run_debug-outcome.ensures.output given.source given.deck given.script holds.source holds.deck holds.script in
    rw c.in-Some.is (c.run_debug-outcome.result, rw c.is_some-given.ensures at met, c.status.ensures.status)

pub returns-clause-runs : goal.returns-clause-runs
returns-clause-runs g c all given e holds =
    let talks = c.run_talk-outcome.ensures.talks all given.source given.deck in
    rw c.in-None.is (λ t there.
    let met = talks t holds.source holds.deck there (inl e) in
    (c.run_talk-outcome.result, rw (c.is_some-given.ensures, c.as_str-name.ensures.value) at met, c.status-in-None.ensures.status))
