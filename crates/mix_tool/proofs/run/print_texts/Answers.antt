-- What was read of the source is all that its run looks at.
use Rattle.std.proofs.Common.{◌∙◌, [], ap}
use Rattle.mix_run.specs.Prelude.{DrawnRun, outcome_of_run}
use Rattle.mix_run.specs.declared.print.PrintAnswer.TheVariants.{Refused}
use Rattle.mix_run.specs.declared.print.Shows.TheVariants.{Nothing}
use Rattle.mix_run.specs.declared.fault.ToolFault.TheVariants as faults
use Rattle.mix_tool.specs.Run.{run_output}
use Rattle.mix_tool.proofs.RunLemmas.{draws-made, draws-refused, leaves-map, leaves-prints, prints-made, prints-no_units, prints-refused, prints-unread}
use Rattle.mix_tool.proofs.run.print_texts.Goals as goal

pub returns-in-Err-Memory-clause-output : goal.returns-in-Err-Memory-clause-output
returns-in-Err-Memory-clause-output g c given holds = ([], prints-unread (run_output [] c.args.plan.now given) faults.Memory _ tt)

pub returns-in-Err-Fault-clause-output : goal.returns-in-Err-Fault-clause-output
returns-in-Err-Fault-clause-output g c given holds = ([], prints-unread (run_output [] c.args.plan.now given) faults.Read _ tt)

pub returns-in-Err-Memory-assemble-clause-output : goal.returns-in-Err-Memory-assemble-clause-output
returns-in-Err-Memory-assemble-clause-output g c given holds = ([], prints-unread (run_output [] c.args.plan.now given) faults.Memory _ tt)

pub returns-in-Err-Fault-assemble-clause-output : goal.returns-in-Err-Fault-assemble-clause-output
returns-in-Err-Fault-assemble-clause-output g c given holds = (
  [],
  prints-refused [] c.args.plan.now given _ _ _ (record { answer = _; shows = Nothing; deck = c.new.result; map = c.new-in-Err-Fault-assemble.result }) _
      (c.deref.ensures.value ∙ (c.in-Ok.ensures.whole given.source holds.source).0) c.parts_of-parts.ensures.source
      (rw c.in-Err-Fault-assemble.field-0-is at c.in-Err-Fault-assemble.ensures.fault) (ap Refused c.in-Err-Fault-assemble.fault-is) c.new.ensures.items,
)

pub returns-in-Err-Fault-assemble-clause-map : goal.returns-in-Err-Fault-assemble-clause-map
returns-in-Err-Fault-assemble-clause-map g c given holds =
    draws-refused c.args.plan.now given _ _ _ _ (c.deref.ensures.value ∙ (c.in-Ok.ensures.whole given.source holds.source).0) c.parts_of-parts.ensures.source
    (rw c.in-Err-Fault-assemble.field-0-is at c.in-Err-Fault-assemble.ensures.fault) c.new-in-Err-Fault-assemble.ensures.items

pub returns-in-Err-clause-output : goal.returns-in-Err-clause-output
returns-in-Err-clause-output g c given holds = (
  [],
  prints-no_units [] c.args.plan.now given _ _ _ c.in-Ok-assemble.program _ _ (c.deref.ensures.value ∙ (c.in-Ok.ensures.whole given.source holds.source).0)
      c.parts_of-parts.ensures.source c.parts_of-parts.ensures.deck c.in-Ok-assemble.ensures.ok
      (c.in-Err.ensures.units given holds.deck holds.cards holds.typewriter),
)

pub returns-clause-output : goal.returns-clause-output
returns-clause-output g c given holds =
    let part = c.as_bytes-subject.ensures.value ∙ c.subject_of.ensures in
    let text = c.run_printed.ensures.0 in
    let outcome = outcome_of_run text c.options_of-options.result c.as_bytes-subject.result.now c.in-Ok-assemble.program c.in-Ok-units_of_run.units in
    let drawn = DrawnRun c.options_of-options.result c.as_bytes-subject.result.now c.in-Ok-assemble.program c.in-Ok-units_of_run.units in
    let prints = leaves-prints outcome drawn c.run_printed.result _ _ _ _ c.run_printed.ensures.1 in (
      text,
      prints-made text c.args.plan.now given _ _ _ c.in-Ok-assemble.program c.in-Ok-units_of_run.units c.run_printed.result _ _
          (c.deref.ensures.value ∙ (c.in-Ok.ensures.whole given.source holds.source).0) c.parts_of-parts.ensures.source c.parts_of-parts.ensures.deck
          c.in-Ok-assemble.ensures.ok (c.in-Ok-units_of_run.ensures.units given holds.deck holds.cards holds.typewriter)
          (rw (c.options_of-options.ensures, part) at prints),
    )

pub returns-clause-map : goal.returns-clause-map
returns-clause-map g c given holds =
    let part = c.as_bytes-subject.ensures.value ∙ c.subject_of.ensures in
    let text = c.run_printed.ensures.0 in
    let outcome = outcome_of_run text c.options_of-options.result c.as_bytes-subject.result.now c.in-Ok-assemble.program c.in-Ok-units_of_run.units in
    let drawn = DrawnRun c.options_of-options.result c.as_bytes-subject.result.now c.in-Ok-assemble.program c.in-Ok-units_of_run.units in
    let map = leaves-map outcome drawn c.run_printed.result _ _ _ _ c.run_printed.ensures.1 in
    draws-made c.args.plan.now given _ _ _ c.in-Ok-assemble.program c.in-Ok-units_of_run.units c.run_printed.result
    (c.deref.ensures.value ∙ (c.in-Ok.ensures.whole given.source holds.source).0) c.parts_of-parts.ensures.source c.parts_of-parts.ensures.deck
    c.in-Ok-assemble.ensures.ok (c.in-Ok-units_of_run.ensures.units given holds.deck holds.cards holds.typewriter)
    (rw (c.options_of-options.ensures, part) at map)
