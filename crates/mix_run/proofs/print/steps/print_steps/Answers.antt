-- One step more, and the plain ones after it.
use Rattle.std.proofs.Common.{◌≡◌, ◌+◌, ◌-◌, ◌∙◌, [], suc, refl, sym, ap, arith}
use Rattle.std.proofs.lemmas.Result.{err_from_is_err_and}
use Rattle.mix_machine.specs.declared.old.Change.TheVariants.{Step}
use Rattle.mix_machine.specs.Transfers.{no_transfers, transfers_after}
use Rattle.mix_run.specs.Prelude.{counted, printed, printed_first, steps_of, written_by, conflicts_after}
use Rattle.mix_run.proofs.PlainLemmas.{same-counts}
use Rattle.mix_run.proofs.PrintLemmas.{written-all, written-begun, written-more}
use Rattle.mix_run.proofs.PrintRunLemmas.{met_by, conflicts-all, conflicts-both, conflicts-same, goes-on, run-none, run-ended, begun-in_step}
use Rattle.mix_run.proofs.Written.{Appends-nothing, Appends-same}
use Rattle.mix_run.proofs.WritesLemmas.{begun-none}
use Rattle.mix_run.proofs.print.steps.print_steps.Goals as goal

pub returns-in_err-left : goal.returns-in_err-left
returns-in_err-left g c =
    let p = err_from_is_err_and c.from_residual.result c.from_residual.ensures.1 in rw (p.1, p.2) (begun-none _ _, refl)

pub returns-in_err-end : goal.returns-in_err-end
returns-in_err-end g c =
    let p = err_from_is_err_and c.from_residual-in_err-end.result c.from_residual-in_err-end.ensures.1 in
    rw (p.1, p.2) (written-begun _ _ _ _ c.loop-left.invariant.written, c.loop-left.invariant.failed)

pub returns-in_err-write_all : goal.returns-in_err-write_all
returns-in_err-write_all g c =
    let p = err_from_is_err_and c.from_residual-in_err-write_all.result c.from_residual-in_err-write_all.ensures.1 in
    let more : c.loop-left.left ≡ suc (c.loop-left.left - 1) = omega (arith, c.loop-left-test.true) in
    let begun = begun-in_step c.args.options (c.args.options.steps - c.loop-left.left + 1) c.loop-left.left (c.loop-left.left - 1) c.loop-left.records.watch.transfers _
    c.loop-left.world c.print_step.new.world _ _ _ _ _ _ _ _ more c.loop-left.invariant.written
    (rw c.new-text.ensures.items at c.in_ok-end.ensures.printed) c.in_ok-end.ensures.noted (rw c.deref.ensures.value at c.in_err-write_all.ensures.begun) in
    rw (p.1, p.2) (begun, c.in_err-write_all.ensures.failed.0.0 refl ∙ ap (λ n. n + 1) c.loop-left.invariant.failed)

pub loop-left-init : goal.loop-left-init
loop-left-init g c =
    let options = c.args.options in
    let first : options.steps - options.steps + 1 ≡ 1 = omega arith in
    let none = ap (λ n. n.count) c.new-watch.ensures.conflicts in
    let rest = printed options (options.steps - c.in_ok-left.left + 1) c.in_ok-left.left c.new-watch.result.transfers c.plain_steps.new.world in
    let run = ap (λ n. printed options n options.steps no_transfers c.args.world.now) (sym first)
    ∙ ap (λ t. printed options (options.steps - options.steps + 1) options.steps t c.args.world.now) (sym c.new-watch.ensures.transfers)
    ∙ c.in_ok-left.ensures.same in
    record {
      within = c.in_ok-left.ensures.fewer;
      written = ([], Appends-nothing _, ap (λ r. r.bytes) run);
      end = sym (ap (λ r. r.end) run);
      world = sym (ap (λ r. r.world) run);
      met = ap (λ n. conflicts_after n rest.met) c.new-watch.ensures.conflicts ∙ conflicts-all rest.met ∙ sym (ap (λ r. counted r.met) run);
      room = omega (arith, none);
      failed = refl;
      counts = same-counts c.args.world.now c.plain_steps.new.world _ c.in_ok-left.ensures.units c.row_counts.ensures;
    }

pub loop-left-preserved : goal.loop-left-preserved
loop-left-preserved g c =
    let options = c.args.options in
    let before = c.loop-left.left in
    let left = c.in_ok-left-in-None.left in
    let w = c.loop-left.world in
    let next = c.print_step.new.world in
    let more : before ≡ suc (before - 1) = omega (arith, c.loop-left-test.true) in
    let ts = c.loop-left.records.watch.transfers in
    let noted = rw c.in-None.is at c.in_ok-end.ensures.noted in
    let number = options.steps - before + 1 in
    let following : options.steps - (before - 1) + 1 ≡ number + 1 = omega (arith, c.loop-left-test.true, c.loop-left.invariant.within) in
    let went = goes-on options number before (before - 1) ts w next [] _ more (rw (c.in-None.is, c.new-text.ensures.items) at c.in_ok-end.ensures.printed) in
    let said = Appends-same _ _ _ _ (c.deref.ensures.value ∙ went.1) c.in_ok-write_all.ensures.written in
    let run = went.0
    ∙ ap (λ n. printed_first (written_by options number w next) (met_by ts w) (printed options n (before - 1) (transfers_after ts w Step) next)) (sym following)
    ∙ ap (λ t. printed_first (written_by options number w next) (met_by ts w) (printed options (options.steps - (before - 1) + 1) (before - 1) t next)) (sym noted.0)
    ∙ ap (λ r. printed_first (written_by options number w next) (met_by ts w) r) c.in_ok-left-in-None.ensures.same in
    let rest = printed options (options.steps - left + 1) left c.print_step.new.records.watch.transfers c.plain_steps-in-None.new.world in
    record {
      within = omega (arith, c.in_ok-left-in-None.ensures.fewer, c.loop-left.invariant.within);
      written = written-more _ _ _ _ _ (written_by options number w next) _ c.loop-left.invariant.written (ap (λ r. r.bytes) run) said;
      end = sym (ap (λ r. r.end) run) ∙ c.loop-left.invariant.end;
      world = sym (ap (λ r. r.world) run) ∙ c.loop-left.invariant.world;
      met = ap (λ n. conflicts_after n rest.met) noted.1 ∙ conflicts-both c.loop-left.records.watch.conflicts (met_by ts w) rest.met
          ∙ sym (ap (λ r. conflicts_after c.loop-left.records.watch.conflicts r.met) run) ∙ c.loop-left.invariant.met;
      room = omega (
        arith,
        c.in_ok-end.ensures.room,
        c.loop-left.invariant.room,
        c.loop-left.invariant.within,
        c.loop-left-test.true,
        c.in_ok-left-in-None.ensures.fewer,
      );
      failed = c.in_ok-write_all.ensures.failed.1 (λ e. cc) ∙ c.loop-left.invariant.failed;
      counts = same-counts next c.plain_steps-in-None.new.world _ c.in_ok-left-in-None.ensures.units c.in_ok-end.ensures.before;
    }

pub returns-in_err-left-in-None : goal.returns-in_err-left-in-None
returns-in_err-left-in-None g c =
    let p = err_from_is_err_and c.from_residual-in_err-left-in-None.result c.from_residual-in_err-left-in-None.ensures.1 in
    let options = c.args.options in
    let before = c.loop-left.left in
    let more : before ≡ suc (before - 1) = omega (arith, c.loop-left-test.true) in
    let number = options.steps - before + 1 in
    let went = goes-on options number before (before - 1) c.loop-left.records.watch.transfers c.loop-left.world c.print_step.new.world [] _ more
    (rw (c.in-None.is, c.new-text.ensures.items) at c.in_ok-end.ensures.printed) in
    let said = Appends-same _ _ _ _ (c.deref.ensures.value ∙ went.1) c.in_ok-write_all.ensures.written in
    rw (p.1, p.2) (
      written-begun _ _ _ _ (written-more _ _ _ _ _ (written_by options number c.loop-left.world c.print_step.new.world) _ c.loop-left.invariant.written
          (ap (λ r. r.bytes) went.0) said),
      c.in_ok-write_all.ensures.failed.1 (λ e. cc) ∙ c.loop-left.invariant.failed,
    )

pub returns-in-Some : goal.returns-in-Some
returns-in-Some g c =
    let more : c.loop-left.left ≡ suc (c.loop-left.left - 1) = omega (arith, c.loop-left-test.true) in
    let ended = run-ended c.args.options (c.args.options.steps - c.loop-left.left + 1) c.loop-left.left (c.loop-left.left - 1) c.loop-left.records.watch.transfers _
    c.loop-left.world c.print_step.new.world _ _ _ _ _ _ _ (steps_of c.args.options c.args.world.now) more
    c.loop-left.invariant.written c.loop-left.invariant.end c.loop-left.invariant.world c.loop-left.invariant.met
    (rw (c.in-Some.is, c.new-text.ensures.items) at c.in_ok-end.ensures.printed) (rw c.in-Some.is at c.in_ok-end.ensures.noted)
    (rw c.deref.ensures.value at c.in_ok-write_all.ensures.written) in
    (ended.0, ended.1, c.in_ok-write_all.ensures.failed.1 (λ e. cc) ∙ c.loop-left.invariant.failed)

pub returns : goal.returns
returns g c =
    let done = run-none c.args.options (c.args.options.steps - c.loop-left.left + 1) c.loop-left.left c.loop-left.records.watch.transfers c.loop-left.world
    c.loop-left-test.false in (
      (
        sym (ap (λ r. r.end) done) ∙ c.loop-left.invariant.end,
        sym (conflicts-same c.loop-left.records.watch.conflicts) ∙ sym (ap (λ r. conflicts_after c.loop-left.records.watch.conflicts r.met) done)
            ∙ c.loop-left.invariant.met,
        sym (ap (λ r. r.world) done) ∙ c.loop-left.invariant.world,
      ),
      written-all _ _ _ _ c.loop-left.invariant.written (ap (λ r. r.bytes) done),
      c.loop-left.invariant.failed,
    )
