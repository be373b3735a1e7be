-- The answer, and then that the program stands elsewhere.
use Rattle.std.proofs.Common.{refl, [], ◌∷◌, codes}
use Rattle.mix_dap.specs.Prelude.{stopped, only}
use Rattle.mix_dap.proofs.EventLemmas.{reply-alone, reply-then}
use Rattle.mix_dap.proofs.adapter.Adapter.tell.Goals as goal

pub returns-in_ok-stopped-in-Goto-clause-reacts : goal.returns-in_ok-stopped-in-Goto-clause-reacts
returns-in_ok-stopped-in-Goto-clause-reacts c = rw c.in-Goto.is (
  tt,
  refl,
  refl,
  refl,
  refl,
  refl,
  reply-then c.args.request.now (stopped (only (codes "goto")) ∷ []) c.args.out.now c.reply-in-Goto.new.self c.stopped.new.out
      (reply-alone c.args.request.now _ c.args.out.now c.reply-in-Goto.new.self c.in_ok-reply-in-Goto.ensures.told) c.in_ok-stopped-in-Goto.ensures,
)
