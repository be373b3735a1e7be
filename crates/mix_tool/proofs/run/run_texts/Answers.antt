-- The run of a plan is that of its texts, and what it leaves is saved.
use Rattle.std.proofs.Common.{ap, inl, ◌∙◌}
use Rattle.std.specs.Option.{option_map}
use Rattle.std.specs.Prelude.{string_bytes}
use Rattle.mix_tool.specs.Ending.{answer_of, status_of_print}
use Rattle.mix_tool.specs.Run.{run_draws, run_output}
use Rattle.mix_tool.proofs.EndingLemmas.{print_range}
use Rattle.mix_tool.proofs.RunLemmas.{saves-as}
use Rattle.mix_tool.proofs.SavingLemmas.{creates-run, saves-run}
use Rattle.mix_tool.proofs.run.run_texts.Goals as goal

pub returns-clause-done : goal.returns-clause-done
returns-clause-done g c all given e holds =
    let prints = c.print_texts-printed.ensures.output given holds in
    inl (prints.0, (c.print_texts-printed.result, prints.1, rw c.print_status-status.ensures at c.save_files.ensures.kept))

pub returns-clause-created : goal.returns-clause-created
returns-clause-created g c =
    creates-run _ _ _ _ _ _ c.print_status-status.ensures c.save_files.ensures.status c.save_files.ensures.created

pub returns-clause-saved : goal.returns-clause-saved
returns-clause-saved g c given holds =
    let both = c.print_texts-printed.ensures.output given holds in
    saves-as both.0 c.args.plan.now given (option_map string_bytes c.args.plan.now.keep) (option_map string_bytes c.args.plan.now.svg) c.save_files.result
    (g.O.Opener.saved c.args.files.now) (g.O.Opener.saved c.save_files.new.files)
    (saves-run (run_output both.0 c.args.plan.now given) (run_draws c.args.plan.now given) _ c.print_texts-printed.result _ _ _ _ _ _ _ _ both.1
    (c.print_texts-printed.ensures.map given holds) c.print_status-status.ensures c.save_files.ensures.status c.save_files.ensures.saved)

pub returns-clause-range : goal.returns-clause-range
returns-clause-range g c = c.save_files.ensures.range (print_range _ _ c.print_status-status.ensures)

pub returns-clause-well : goal.returns-clause-well
returns-clause-well g c well =
    let same = c.save_files.ensures.well well in
    (c.print_texts-printed.ensures.write.1 (λ failed. well (same.0 ∙ c.print_status-status.ensures ∙ ap (λ run. status_of_print (answer_of run)) failed)), same.1)
