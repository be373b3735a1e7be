-- The session is that of the program, and a part that is none ends the run before it begins.
use Rattle.std.proofs.Common.{◌∙◌, [], refl, sym}
use Rattle.std.proofs.lemmas.Result.{err_from_is_err_and}
use Rattle.mix_run.specs.declared.print.PrintAnswer.TheVariants.{NoTable}
use Rattle.mix_run.specs.declared.print.Shows.TheVariants.{Nothing}
use Rattle.mix_run.proofs.DrawnLemmas.{leaves-none, leaves-opened}
use Rattle.mix_run.proofs.WritesLemmas.{begun-none}
use Rattle.mix_run.proofs.print.drawn.tell_loaded.Goals as goal

pub returns-in_err-session : goal.returns-in_err-session
returns-in_err-session g c =
    let p = err_from_is_err_and c.from_residual.result c.from_residual.ensures.1 in rw (p.1, p.2) ([], (begun-none _ _, refl))

pub returns-in_err-cell : goal.returns-in_err-cell
returns-in_err-cell g c =
    let p = err_from_is_err_and c.from_residual-in_err-cell.result c.from_residual-in_err-cell.ensures.1 in rw (p.1, p.2) ([], (begun-none _ _, refl))

pub returns-in-Err : goal.returns-in-Err
returns-in-Err g c = (
  [],
  leaves-none c.args.options c.args.part.now c.args.program c.args.units c.in_ok-session.session c.in-Err.refusal
      (record { answer = NoTable c.in-Err.refusal; shows = Nothing; deck = c.new.result; map = c.new-in-Err.result }) _ _ c.in_ok-session.ensures
      (sym c.step_table.ensures ∙ c.in-Err.is) refl c.new.ensures.items c.new-in-Err.ensures.items,
)

pub returns : goal.returns
returns g c = (
  c.tell_session.ensures.0,
  leaves-opened c.tell_session.ensures.0 c.args.options c.args.part.now _ c.args.program c.args.units c.in_ok-session.session _ _ _ _ _ c.in_ok-session.ensures
      (sym c.step_table.ensures ∙ c.in-Ok.is) c.tell_session.ensures.1,
)
