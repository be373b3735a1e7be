-- What is left is of the machine that the program is loaded into.
use Rattle.std.proofs.Common.{◌≡◌, None, [], refl}
use Rattle.std.proofs.lemmas.Result.{err_from_is_err_and}
use Rattle.mix_machine.specs.Loaded.{loaded}
use Rattle.mix_run.specs.Print.{run_of}
use Rattle.mix_run.proofs.DrawnLemmas.{broken-as, leaves-made, told-as}
use Rattle.mix_run.proofs.Written.{AppendsFront-all}
use Rattle.mix_run.proofs.WritesLemmas.{begun-none}
use Rattle.mix_run.proofs.print.loaded.print_loaded.Goals as goal

pub returns-in_err-world : goal.returns-in_err-world
returns-in_err-world g c =
    let p = err_from_is_err_and c.from_residual.result c.from_residual.ensures.1 in rw (p.1, p.2) (begun-none _ _, refl)

pub returns-in_err-stepped : goal.returns-in_err-stepped
returns-in_err-stepped g c =
    let p = err_from_is_err_and c.from_residual-in_err-stepped.result c.from_residual-in_err-stepped.ensures.1 in
    let program = c.args.program.now in
    rw (p.1, p.2) (broken-as [] None c.args.options c.in_ok-world.world (loaded program.words program.start c.args.units) _ _ _ _ _
    (rw (c.words.ensures, c.start.ensures) at c.in_ok-world.ensures) c.in_err-stepped.ensures)

pub returns-in_err-printed : goal.returns-in_err-printed
returns-in_err-printed g c =
    let p = err_from_is_err_and c.from_residual-in_err-printed.result c.from_residual-in_err-printed.ensures.1 in
    let program = c.args.program.now in
    let told = told-as [] None c.args.options c.in_ok-world.world (loaded program.words program.start c.args.units) c.print_run.new.world
    c.in_ok-stepped.stepped _ _ _ _ (rw (c.words.ensures, c.start.ensures) at c.in_ok-world.ensures) c.in_ok-stepped.ensures in
    rw (p.1, p.2) (AppendsFront-all _ _ _ told.1, told.2)

pub returns : goal.returns
returns g c =
    let program = c.args.program.now in
    let told = told-as [] None c.args.options c.in_ok-world.world (loaded program.words program.start c.args.units) c.print_run.new.world
    c.in_ok-stepped.stepped _ _ _ _ (rw (c.words.ensures, c.start.ensures) at c.in_ok-world.ensures) c.in_ok-stepped.ensures in
    leaves-made c.args.options program program (run_of c.args.options (loaded program.words program.start c.args.units)) c.in_ok-stepped.stepped
    c.print_run.new.world c.in_ok-printed.printed (λ map. map ≡ []) _ _ _ _ refl told c.in_ok-printed.ensures.answer c.in_ok-printed.ensures.deck
    (rw (c.in_ok-printed.ensures.map, c.new.ensures.items) refl)
