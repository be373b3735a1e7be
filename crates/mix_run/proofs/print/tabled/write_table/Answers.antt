-- What is before the rows, they, and what is after them.
use Rattle.std.proofs.Common.{◌∙◌, ◌++◌, [], refl}
use Rattle.std.proofs.lemmas.Result.{err_from_is_err_and}
use Rattle.mix_run.proofs.Written.{Appends-then, AppendsFront-all}
use Rattle.mix_run.proofs.WritesLemmas.{begun-none, broken-then, writes-failed}
use Rattle.mix_run.proofs.print.tabled.write_table.Goals as goal

pub returns-in_err-table : goal.returns-in_err-table
returns-in_err-table g c =
    let p = err_from_is_err_and c.from_residual.result c.from_residual.ensures.1 in rw (p.1, p.2) ([], (begun-none _ _, refl))

pub returns-in_err-write_all : goal.returns-in_err-write_all
returns-in_err-write_all g c =
    let p = err_from_is_err_and c.from_residual-in_err-write_all.result c.from_residual-in_err-write_all.ensures.1 in
    rw (p.1, p.2) (c.deref.result.now, (c.in_err-write_all.ensures.begun, c.in_err-write_all.ensures.failed.0.0 refl))

pub returns-in_err-end : goal.returns-in_err-end
returns-in_err-end g c =
    let p = err_from_is_err_and c.from_residual-in_err-end.result c.from_residual-in_err-end.ensures.1 in
    let front = c.deref.result.now in
    let rows = c.in_err-end.ensures in
    rw (p.1, p.2) (
      front ++ (rows.0 ++ []),
      broken-then front rows.0 [] _ _ _ _ _ _ _ _ c.in_ok-write_all.ensures.written (c.in_ok-write_all.ensures.failed.1 (λ e. cc)) refl rows.1,
    )

pub returns-in_err-end-2 : goal.returns-in_err-end-2
returns-in_err-end-2 g c =
    let p = err_from_is_err_and c.from_residual-in_err-end-2.result c.from_residual-in_err-end-2.ensures.1 in
    let rows = c.in_ok-end.ensures in
    rw (p.1, p.2) (
      c.deref.result.now ++ rows.0,
      (
        AppendsFront-all _ _ _ (Appends-then _ _ _ _ _ c.in_ok-write_all.ensures.written rows.1.1),
        rows.1.2 ∙ c.in_ok-write_all.ensures.failed.1 (λ e. cc),
      ),
    )

pub returns-in_err-write_all-2 : goal.returns-in_err-write_all-2
returns-in_err-write_all-2 g c =
    let p = err_from_is_err_and c.from_residual-in_err-write_all-2.result c.from_residual-in_err-write_all-2.ensures.1 in
    let rows = c.in_ok-end.ensures in
    let front = c.deref.result.now ++ rows.0 in
    rw (p.1, p.2) (
      front ++ (c.deref-2.result.now ++ []),
      writes-failed front _ [] _ _ _ _ _ _ _ (Appends-then _ _ _ _ _ c.in_ok-write_all.ensures.written rows.1.1)
          (rows.1.2 ∙ c.in_ok-write_all.ensures.failed.1 (λ e. cc)) refl c.in_err-write_all-2.ensures.begun (c.in_err-write_all-2.ensures.failed.0.0 refl),
    )

pub returns : goal.returns
returns g c =
    let rows = c.in_ok-end.ensures in (
      (c.deref.result.now ++ rows.0) ++ c.deref-2.result.now,
      (
        (rw c.alone.ensures.end rows.1.0.0, c.alone.ensures.conflicts, rows.1.0.1),
        Appends-then _ _ _ _ _ (Appends-then _ _ _ _ _ c.in_ok-write_all.ensures.written rows.1.1) c.in_ok-write_all-2.ensures.written,
        c.in_ok-write_all-2.ensures.failed.1 (λ e. cc) ∙ rows.1.2 ∙ c.in_ok-write_all.ensures.failed.1 (λ e. cc),
      ),
    )
