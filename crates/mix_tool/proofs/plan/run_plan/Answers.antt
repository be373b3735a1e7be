-- The files of a plan are opened, and then its sources; it is done as its run is.
use Rattle.std.proofs.Common.{◌∙◌, Some, ap, refl, subst}
use Rattle.mix_run.specs.Opening.{Missing, missing_of}
use Rattle.mix_tool.specs.Plan.{FileNames, HoldTexts, RunsOn, files_of, given_of, in_order, names_in, names_of, seen, sources_of}
use Rattle.mix_tool.proofs.CheckLemmas.{done-as, plan-missing, plan-opened}
use Rattle.mix_tool.proofs.SavingLemmas.{creates-none, saves-none}
use Rattle.mix_tool.proofs.plan.run_plan.Goals as goal

pub returns-in-Ok-clause-opened : goal.returns-in-Ok-clause-opened
returns-in-Ok-clause-opened g c all e =
    (plan-opened all (in_order (names_in c.names_in.result)) (in_order (names_of c.args.plan.now)) (sources_of c.args.plan.now) _ _ _
    (ap in_order c.names_in.ensures) (c.in-Ok.ensures.opened all e) (c.run_on.ensures.opened all (c.open_texts.ensures.same ∙ e))).0

pub returns-in-Ok-clause-done : goal.returns-in-Ok-clause-done
returns-in-Ok-clause-done g c all e =
    let plan = c.args.plan.now in
    let before = seen g.R.In.rest g.W.Out.told (g.O.Opener.refusal c.args.files.now) c.args.streams.now in
    let after = seen g.R.In.rest g.W.Out.told (g.O.Opener.refusal c.run_on.new.files) c.run_on.new.streams in
    let here = c.open_texts.ensures.same ∙ e in
    let both = plan-opened all (in_order (names_in c.names_in.result)) (in_order (names_of plan)) (sources_of plan) _ _ _
    (ap in_order c.names_in.ensures) (c.in-Ok.ensures.opened all e) (c.run_on.ensures.opened all here) in
    let holds = subst (λ (n : FileNames). HoldTexts g.O.Reader.In.rest c.in-Ok.texts (given_of all n)) c.names_in.ensures (c.in-Ok.ensures.texts all e) in
    done-as (missing_of all (files_of plan)) (missing_of all (sources_of plan))
    (RunsOn all plan (given_of all (names_of plan)) c.args.streams.now.talker c.run_on.result before after) c.run_on.result before after both.1
    (rw c.open_texts.ensures.unsaved.2 at (c.run_on.ensures.done all (given_of all (names_of plan)) here holds))

pub returns-in-Err-clause-done : goal.returns-in-Err-clause-done
returns-in-Err-clause-done g c all e =
    let plan = c.args.plan.now in
    let before = seen g.R.In.rest g.W.Out.told (g.O.Opener.refusal c.args.files.now) c.args.streams.now in
    let after = seen g.R.In.rest g.W.Out.told (g.O.Opener.refusal c.open_texts.new.files) (record {
      talker = c.args.streams.now.talker;
      input = c.args.streams.now.input;
      out = c.args.streams.now.out;
      errors = c.tell_not_opened.new.errors;
    }) in
    let found : Missing = (c.in-Err.fault.name.now, c.in-Err.fault.reason) in
    let missing = plan-missing all (in_order (names_in c.names_in.result)) (in_order (names_of plan)) (sources_of plan) _ _ found
    (ap in_order c.names_in.ensures) (c.in-Err.ensures.missing all e) in
    done-as (missing_of all (files_of plan)) (Some found)
    (RunsOn all plan (given_of all (names_of plan)) c.args.streams.now.talker c.tell_not_opened.result before after) c.tell_not_opened.result before after missing.1
    (c.tell_not_opened.ensures, refl, refl)

pub returns-in-Ok-clause-created : goal.returns-in-Ok-clause-created
returns-in-Ok-clause-created g c names e = rw c.open_texts.ensures.unsaved.0 at (c.run_on.ensures.created names e)

pub returns-in-Err-clause-created : goal.returns-in-Err-clause-created
returns-in-Err-clause-created g c names e = creates-none names _ _ _ c.tell_not_opened.ensures c.open_texts.ensures.unsaved.0

pub returns-in-Ok-clause-saved : goal.returns-in-Ok-clause-saved
returns-in-Ok-clause-saved g c all e =
    let holds = subst (λ (n : FileNames). HoldTexts g.O.Reader.In.rest c.in-Ok.texts (given_of all n)) c.names_in.ensures (c.in-Ok.ensures.texts all e) in
    rw c.open_texts.ensures.unsaved.1 at (c.run_on.ensures.saved (given_of all (names_of c.args.plan.now)) holds)

pub returns-in-Err-clause-saved : goal.returns-in-Err-clause-saved
returns-in-Err-clause-saved g c all e = saves-none c.args.plan.now _ _ _ _ c.tell_not_opened.ensures c.open_texts.ensures.unsaved.1

pub returns-in-Ok-clause-all_saved : goal.returns-in-Ok-clause-all_saved
returns-in-Ok-clause-all_saved g c names e well = c.run_on.ensures.all_saved names e well ∙ c.open_texts.ensures.unsaved.2

pub returns-in-Dap-clause-served : goal.returns-in-Dap-clause-served
returns-in-Dap-clause-served g c hears = c.serve_from.ensures.done

pub returns-in-Dap-clause-broken : goal.returns-in-Dap-clause-broken
returns-in-Dap-clause-broken g c hears = c.serve_from.ensures.broken

pub returns-in-Lsp-clause-spoken : goal.returns-in-Lsp-clause-spoken
returns-in-Lsp-clause-spoken g c hears = c.serve.ensures.served

pub returns-in-Lsp-clause-speechless : goal.returns-in-Lsp-clause-speechless
returns-in-Lsp-clause-speechless g c hears = c.serve.ensures.broken
