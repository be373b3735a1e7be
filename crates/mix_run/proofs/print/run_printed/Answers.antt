-- Which run is asked for.
use Rattle.std.proofs.Common.{◌∙◌, [], Ok, ap, refl, sym}
use Rattle.std.proofs.lemmas.Result.{err_from_is_err_and}
use Rattle.mix_run.specs.Counted.{is_table}
use Rattle.mix_run.specs.declared.print.PrintAnswer.TheVariants.{NoTable}
use Rattle.mix_run.specs.declared.print.Shows.TheVariants.{Nothing}
use Rattle.mix_run.proofs.DrawnLemmas.{leaves-alone, leaves-counted, leaves-refused, leaves-told}
use Rattle.mix_run.proofs.WritesLemmas.{begun-none}
use Rattle.mix_run.proofs.print.run_printed.Goals as goal

pub returns-in_err-refusal : goal.returns-in_err-refusal
returns-in_err-refusal g c =
    let p = err_from_is_err_and c.from_residual.result c.from_residual.ensures.1 in rw (p.1, p.2) ([], (begun-none _ _, refl))

pub returns-in-Err : goal.returns-in-Err
returns-in-Err g c = (
  [],
  leaves-refused [] c.args.options c.args.subject.now c.args.program c.args.units c.in-Err.refusal
      (record { answer = NoTable c.in-Err.refusal; shows = Nothing; deck = c.new.result; map = c.new-in-Err.result }) _ _ (sym c.in_ok-refusal.ensures ∙ ap is_table c.in-Err.is) refl
      c.new.ensures.items c.new-in-Err.ensures.items,
)

pub returns-in-Ok-Some : goal.returns-in-Ok-Some
returns-in-Ok-Some g c = (
  c.count_loaded.ensures.0,
  leaves-counted c.count_loaded.ensures.0 c.args.options c.args.subject.now c.args.program c.args.units _ _ _ _ _
      (sym c.in_ok-refusal.ensures ∙ ap is_table (c.in-Ok-Some.is ∙ ap Ok c.in-Ok-Some.field-0-is)) c.count_loaded.ensures.1,
)

pub returns-then-needs_session : goal.returns-then-needs_session
returns-then-needs_session g c = (
  c.tell_loaded.ensures.0,
  leaves-told c.tell_loaded.ensures.0 c.args.options c.args.subject.now c.args.program c.args.units _ _ _ _ _
      (sym c.in_ok-refusal.ensures ∙ ap is_table (c.in-Ok-None.is ∙ ap Ok c.in-Ok-None.field-0-is)) c.tell_loaded.ensures.1,
)

pub returns-else-needs_session : goal.returns-else-needs_session
returns-else-needs_session g c = (
  [],
  leaves-alone [] c.args.options c.args.subject.now c.args.program c.args.units _ _ _ _ _ (sym c.needs_session.ensures ∙ c.if-needs_session.false)
      c.print_loaded.ensures,
)
