-- One step more.
use Rattle.std.proofs.Common.{◌≡◌, ◌-◌, ◌∙◌, ◌++◌, [], suc, refl, arith}
use Rattle.std.proofs.lemmas.Result.{err_from_is_err_and}
use Rattle.mix_run.specs.Prelude.{steps_of}
use Rattle.mix_run.specs.StepTable.{unwatched}
use Rattle.mix_run.proofs.TabledLemmas.{rests-ended, rests-first, rests-none, rests-on}
use Rattle.mix_run.proofs.Written.{Appends-nothing, Appends-then, AppendsFront-all}
use Rattle.mix_run.proofs.WritesLemmas.{writes-failed}
use Rattle.mix_run.proofs.print.tabled.write_rows.Goals as goal

pub returns-in_err-end : goal.returns-in_err-end
returns-in_err-end g c =
    let p = err_from_is_err_and c.from_residual.result c.from_residual.ensures.1 in
    let so_far = c.loop-left.invariant.written in
    rw (p.1, p.2) (so_far.0, (AppendsFront-all _ _ _ so_far.1, c.loop-left.invariant.failed))

pub returns-in_err-write_all : goal.returns-in_err-write_all
returns-in_err-write_all g c =
    let p = err_from_is_err_and c.from_residual-in_err-write_all.result c.from_residual-in_err-write_all.ensures.1 in
    let so_far = c.loop-left.invariant.written in
    rw (p.1, p.2) (
      so_far.0 ++ (c.deref.result.now ++ []),
      writes-failed so_far.0 _ [] _ _ _ _ _ _ _ so_far.1 c.loop-left.invariant.failed refl c.in_err-write_all.ensures.begun
          (c.in_err-write_all.ensures.failed.0.0 refl),
    )

pub loop-left-init : goal.loop-left-init
loop-left-init g c = record { written = ([], Appends-nothing _); failed = refl; rests = rests-first c.args.options c.args.world.now }

pub loop-left-preserved : goal.loop-left-preserved
loop-left-preserved g c =
    let left = c.loop-left.left in
    let more : left ≡ suc (left - 1) = omega (arith, c.loop-left-test.true) in
    let so_far = c.loop-left.invariant.written in
    record {
      written = (so_far.0 ++ c.deref.result.now, Appends-then _ _ _ _ _ so_far.1 c.in_ok-write_all.ensures.written);
      failed = c.in_ok-write_all.ensures.failed.1 (λ e. cc) ∙ c.loop-left.invariant.failed;
      rests = rests-on c.args.options left (left - 1) _ _ (steps_of (unwatched c.args.options) c.args.world.now) more (rw c.in-None.is at c.in_ok-end.ensures) c.loop-left.invariant.rests;
    }

pub returns-in-Some : goal.returns-in-Some
returns-in-Some g c =
    let left = c.loop-left.left in
    let more : left ≡ suc (left - 1) = omega (arith, c.loop-left-test.true) in
    let so_far = c.loop-left.invariant.written in (
      so_far.0 ++ c.deref.result.now,
      (
        rests-ended c.args.options left (left - 1) _ _ _ (steps_of (unwatched c.args.options) c.args.world.now) more (rw c.in-Some.is at c.in_ok-end.ensures) c.loop-left.invariant.rests,
        Appends-then _ _ _ _ _ so_far.1 c.in_ok-write_all.ensures.written,
        c.in_ok-write_all.ensures.failed.1 (λ e. cc) ∙ c.loop-left.invariant.failed,
      ),
    )

pub returns : goal.returns
returns g c =
    let so_far = c.loop-left.invariant.written in (
      so_far.0,
      (
        rests-none c.args.options c.loop-left.left c.loop-left.world (steps_of (unwatched c.args.options) c.args.world.now) c.loop-left-test.false c.loop-left.invariant.rests,
        so_far.1,
        c.loop-left.invariant.failed,
      ),
    )
