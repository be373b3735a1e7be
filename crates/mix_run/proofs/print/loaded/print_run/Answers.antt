-- The registers stand behind what the steps print.
use Rattle.std.proofs.Common.{◌∙◌, ◌++◌, [], ap, refl, sym}
use Rattle.std.proofs.lemmas.List.{append-nil}
use Rattle.std.proofs.lemmas.Result.{err_from_is_err_and}
use Rattle.mix_run.specs.Print.{registers_if, steps_of}
use Rattle.mix_run.proofs.Written.{Appends-nothing, Appends-same, Appends-then, AppendsFront-after, AppendsFront-all}
use Rattle.mix_run.proofs.WritesLemmas.{broken-then, writes-failed}
use Rattle.mix_run.proofs.print.loaded.print_run.Goals as goal

pub returns-in_err-stepped : goal.returns-in_err-stepped
returns-in_err-stepped g c =
    let p = err_from_is_err_and c.from_residual.result c.from_residual.ensures.1 in
    let run = steps_of c.args.options c.args.world.now in
    rw (p.1, p.2) (broken-then [] run.bytes (registers_if c.args.options.registers run.world) _ _ _ _ _ _ _ _ (Appends-nothing _) refl refl c.in_err-stepped.ensures)

pub returns-in_err-add_registers : goal.returns-in_err-add_registers
returns-in_err-add_registers g c =
    let p = err_from_is_err_and c.from_residual-in_err-add_registers.result c.from_residual-in_err-add_registers.ensures.1 in
    let run = steps_of c.args.options c.args.world.now in
    let told = c.in_ok-stepped.ensures in
    rw (p.1, p.2) (AppendsFront-after _ _ _ [] run.bytes (registers_if c.args.options.registers run.world) _ (Appends-nothing _) (AppendsFront-all _ _ _ told.1) refl, told.2)

pub returns-in_err-write_all : goal.returns-in_err-write_all
returns-in_err-write_all g c =
    let p = err_from_is_err_and c.from_residual-in_err-write_all.result c.from_residual-in_err-write_all.ensures.1 in
    let run = steps_of c.args.options c.args.world.now in
    let told = c.in_ok-stepped.ensures in
    let text = c.deref.ensures.value ∙ c.in_ok-add_registers.ensures ∙ ap (λ xs. xs ++ registers_if c.args.options.registers c.print_steps.new.world) c.new-text.ensures.items in
    rw (p.1, p.2) (writes-failed run.bytes _ [] _ _ _ _ _ _ _ told.1 told.2
    (ap (λ xs. run.bytes ++ xs) (ap (registers_if c.args.options.registers) (sym told.0.2) ∙ sym text ∙ sym (append-nil _)))
    c.in_err-write_all.ensures.begun (c.in_err-write_all.ensures.failed.0.0 refl))

pub returns : goal.returns
returns g c =
    let run = steps_of c.args.options c.args.world.now in
    let told = c.in_ok-stepped.ensures in
    let text = c.deref.ensures.value ∙ c.in_ok-add_registers.ensures ∙ ap (λ xs. xs ++ registers_if c.args.options.registers c.print_steps.new.world) c.new-text.ensures.items in (
      told.0,
      Appends-then _ _ _ _ _ told.1 (Appends-same _ _ _ _ (text ∙ ap (registers_if c.args.options.registers) told.0.2) c.in_ok-write_all.ensures.written),
      c.in_ok-write_all.ensures.failed.1 (λ e. cc) ∙ told.2,
    )
