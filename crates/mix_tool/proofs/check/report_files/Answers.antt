-- One file more, up to the first that can't be opened.
use Rattle.std.proofs.Common.{◌∙◌, ◌∷◌, ◌-◌, List, ℕ, ap, sym, length, take, drop, map}
use Rattle.std.specs.Prelude.{string_bytes}
use Rattle.std.proofs.lemmas.Result.{err_from_is_err_and}
use Rattle.mix_tool.proofs.CheckLemmas.{first-name, missing-file, next-file}
use Rattle.mix_tool.proofs.check.report_files.Goals as goal

pub returns-in_err-reports-clause-missing : goal.returns-in_err-reports-clause-missing
returns-in_err-reports-clause-missing g c all e =
    let p = err_from_is_err_and c.from_residual.result c.from_residual.ensures.1 in
    let split = first-name string_bytes c.loop-rest.rest.now c.name-item.result c.in-len1-up.len_at_least c.name-item.is
    ∙ ap (λ (n : List ℕ). n ∷ map string_bytes (take (length c.loop-rest.rest.now - 1) (drop 1 c.loop-rest.rest.now))) (sym c.deref.ensures) in
    let here = c.loop-rest.invariant.same ∙ e in
    rw (p.1, p.2) (missing-file all c.args.json _ _ _ _ _ _ _ _ _ split (c.loop-rest.invariant.so_far all e) (c.in_err-reports.ensures.missing all here))

pub loop-rest-preserved : goal.loop-rest-preserved
loop-rest-preserved g c =
    let split = first-name string_bytes c.loop-rest.rest.now c.name-item.result c.in-len1-up.len_at_least c.name-item.is
    ∙ ap (λ (n : List ℕ). n ∷ map string_bytes (take (length c.loop-rest.rest.now - 1) (drop 1 c.loop-rest.rest.now))) (sym c.deref.ensures) in
    record {
      same = c.in_ok-reports.ensures.same ∙ c.loop-rest.invariant.same;
      so_far = λ all e.
          let here = c.loop-rest.invariant.same ∙ e in
          next-file all c.args.json _ _ _ _ _ _ _ _ _ split (c.loop-rest.invariant.so_far all e) (c.in_ok-reports.ensures.opened all here)
          (λ before reported. c.in_ok-reports.ensures.reported all before here reported);
    }
