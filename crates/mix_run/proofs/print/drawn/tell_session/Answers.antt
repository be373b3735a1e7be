-- What is told is of the machine that the session begins with.
use Rattle.std.proofs.Common.{[], ◌∙◌, refl}
use Rattle.std.proofs.lemmas.Result.{err_from_is_err_and}
use Rattle.mix_session.specs.Change.{world_at}
use Rattle.mix_run.specs.Prelude.{DrawnIf, run_told}
use Rattle.mix_run.proofs.DrawnLemmas.{broken-as, leaves-made, told-as}
use Rattle.mix_run.proofs.Written.{AppendsFront-all}
use Rattle.mix_run.proofs.WritesLemmas.{begun-none}
use Rattle.mix_run.proofs.print.drawn.tell_session.Goals as goal

pub returns-in_err-world : goal.returns-in_err-world
returns-in_err-world g c =
    let p = err_from_is_err_and c.from_residual.result c.from_residual.ensures.1 in rw (p.1, p.2) ([], (begun-none _ _, refl))

pub returns-in_err-stepped : goal.returns-in_err-stepped
returns-in_err-stepped g c =
    let p = err_from_is_err_and c.from_residual-in_err-stepped.result c.from_residual-in_err-stepped.ensures.1 in
    let told = c.in_err-stepped.ensures in
    rw (p.1, p.2) (
      told.0,
      broken-as told.0 c.args.table.now c.args.options c.in_ok-world.world (world_at c.args.session.now.timeline 0) _ _ _ _ _ c.in_ok-world.ensures told.1,
    )

pub returns-in_err-map : goal.returns-in_err-map
returns-in_err-map g c =
    let p = err_from_is_err_and c.from_residual-in_err-map.result c.from_residual-in_err-map.ensures.1 in
    let told = c.in_ok-stepped.ensures in
    let here = told-as told.0 c.args.table.now c.args.options c.in_ok-world.world (world_at c.args.session.now.timeline 0) c.tell_steps.new.world
    c.in_ok-stepped.stepped _ _ _ _ c.in_ok-world.ensures told.1 in
    rw (p.1, p.2) (told.0, (AppendsFront-all _ _ _ here.1, here.2))

pub returns-in_err-printed : goal.returns-in_err-printed
returns-in_err-printed g c =
    let p = err_from_is_err_and c.from_residual-in_err-printed.result c.from_residual-in_err-printed.ensures.1 in
    let told = c.in_ok-stepped.ensures in
    let here = told-as told.0 c.args.table.now c.args.options c.in_ok-world.world (world_at c.args.session.now.timeline 0) c.tell_steps.new.world
    c.in_ok-stepped.stepped _ _ _ _ c.in_ok-world.ensures told.1 in
    rw (p.1, p.2) (told.0, (AppendsFront-all _ _ _ here.1, here.2))

pub returns : goal.returns
returns g c =
    let s = c.args.session.now in
    let told = c.in_ok-stepped.ensures in
    let here = told-as told.0 c.args.table.now c.args.options c.in_ok-world.world (world_at s.timeline 0) c.tell_steps.new.world
    c.in_ok-stepped.stepped _ _ _ _ c.in_ok-world.ensures told.1 in (
      told.0,
      leaves-made c.args.options s.program c.program-2.result.now (run_told told.0 c.args.table.now c.args.options (world_at s.timeline 0))
          c.in_ok-stepped.stepped c.tell_steps.new.world c.in_ok-printed.printed (DrawnIf c.args.options.map) _ _ _ _ (c.program-2.ensures ∙ c.in_ok-map.ensures.program) here
          c.in_ok-printed.ensures.answer c.in_ok-printed.ensures.deck (rw c.in_ok-printed.ensures.map c.in_ok-map.ensures.map),
    )
