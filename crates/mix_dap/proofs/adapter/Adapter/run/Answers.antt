-- The run is done or broken off, and that is told.
use Rattle.std.proofs.Common.{Some, subst, sym}
use Rattle.std.proofs.lemmas.Result.{err_from_is_err_and}
use Rattle.mix_session.specs.Session.{SessionState}
use Rattle.mix_dap.specs.Runs.{RunDone}
use Rattle.mix_dap.proofs.ReactionLemmas.{runs-broken, runs-done}
use Rattle.mix_dap.proofs.adapter.Adapter.run.Goals as goal

pub returns-in_err-stop_run-in-Ok-clause-begun : goal.returns-in_err-stop_run-in-Ok-clause-begun
returns-in_err-stop_run-in-Ok-clause-begun c =
    let p = err_from_is_err_and c.from_residual.result c.from_residual.ensures.1 in
    rw p.1 (
      Some c.in-Ok.end,
      c.run_legs.new.points,
      subst (λ (s : SessionState). RunDone c.args.way c.args.self.now.points c.args.self.now.session.timeline c.in-Ok.end c.run_legs.new.points s.timeline)
          (sym c.in_err-stop_run-in-Ok.ensures.session) c.in-Ok.ensures.done,
    )

pub returns-in_ok-stop_run-in-Ok-clause-runs : goal.returns-in_ok-stop_run-in-Ok-clause-runs
returns-in_ok-stop_run-in-Ok-clause-runs c =
    runs-done c.args.way c.args.self.now c.stop_run.new.self c.in-Ok.end c.run_legs.new.points c.run_legs.new.session c.args.out.now c.stop_run.new.out
    c.in-Ok.ensures.done c.in_ok-stop_run-in-Ok.ensures.session c.in_ok-stop_run-in-Ok.ensures.keeps.3 c.in_ok-stop_run-in-Ok.ensures.fault
    c.in_ok-stop_run-in-Ok.ensures.printed c.in_ok-stop_run-in-Ok.ensures.tells

pub returns-in_ok-stop_for_memory-in-Err-clause-runs : goal.returns-in_ok-stop_for_memory-in-Err-clause-runs
returns-in_ok-stop_for_memory-in-Err-clause-runs c =
    runs-broken c.args.way c.args.self.now c.stop_for_memory.new.self c.run_legs.new.points c.run_legs.new.session c.args.out.now c.stop_for_memory.new.out
    c.in-Err.ensures.broken c.in_ok-stop_for_memory-in-Err.ensures.session c.in_ok-stop_for_memory-in-Err.ensures.keeps.3
    c.in_ok-stop_for_memory-in-Err.ensures.fault c.in_ok-stop_for_memory-in-Err.ensures.printed c.in_ok-stop_for_memory-in-Err.ensures.tells
