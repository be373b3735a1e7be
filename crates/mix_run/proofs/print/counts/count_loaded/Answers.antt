-- What is written is the table after the steps; without memory nothing is.
use Rattle.std.proofs.Common.{[], refl}
use Rattle.std.proofs.lemmas.Result.{err_from_is_err_and}
use Rattle.mix_run.proofs.CountedLemmas.{counted-begun, counted-leaves}
use Rattle.mix_run.proofs.WritesLemmas.{begun-none}
use Rattle.mix_run.proofs.print.counts.count_loaded.Goals as goal

pub returns-in_err-session : goal.returns-in_err-session
returns-in_err-session g c =
    let p = err_from_is_err_and c.from_residual.result c.from_residual.ensures.1 in rw (p.1, p.2) ([], (begun-none _ _, refl))

pub returns-in_err-made : goal.returns-in_err-made
returns-in_err-made g c =
    let p = err_from_is_err_and c.from_residual-in_err-made.result c.from_residual-in_err-made.ensures.1 in rw (p.1, p.2) ([], (begun-none _ _, refl))

pub returns-in_err-write_all : goal.returns-in_err-write_all
returns-in_err-write_all g c =
    let p = err_from_is_err_and c.from_residual-in_err-write_all.result c.from_residual-in_err-write_all.ensures.1 in
    rw (p.1, p.2) (
      c.in_ok-made.made.0.items,
      counted-begun c.args.options c.args.program c.args.units c.in_ok-session.session c.in_ok-made.made.0.items c.in_ok-made.made.1 _ _ _ _ c.in_ok-session.ensures
          c.in_ok-made.ensures (rw c.deref.ensures.value at c.in_err-write_all.ensures.begun) (c.in_err-write_all.ensures.failed.0.0 refl),
    )

pub returns : goal.returns
returns g c = (
  c.in_ok-made.made.0.items,
  counted-leaves c.args.options c.args.program c.args.units c.in_ok-session.session c.in_ok-made.made.0.items c.in_ok-made.made.1 _ _ _ _ c.in_ok-session.ensures
      c.in_ok-made.ensures (rw c.deref.ensures.value at c.in_ok-write_all.ensures.written) (c.in_ok-write_all.ensures.failed.1 (λ e. cc)),
)
