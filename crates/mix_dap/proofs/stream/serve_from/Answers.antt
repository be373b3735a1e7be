-- The dialogue came to its end, or what broke it off is told.
use Rattle.std.proofs.Common.{Ok, Err, refl}
use Rattle.mix_dap.proofs.DialogueLemmas.{counts-why, dialogue-as}
use Rattle.mix_dap.proofs.stream.serve_from.Goals as goal

pub returns-in-Ok-clause-done : goal.returns-in-Ok-clause-done
returns-in-Ok-clause-done g c well = (refl, dialogue-as (Ok tt) _ _ _ _ _ _ c.in-Ok.ensures.dialogue c.new.ensures, c.in-Ok.ensures.read.1 (λ e. cc))

pub returns-in-Ok-clause-broken : goal.returns-in-Ok-clause-broken
returns-in-Ok-clause-broken g c two = absurd cc

pub returns-clause-done : goal.returns-clause-done
returns-clause-done g c well = absurd (well refl)

pub returns-clause-broken : goal.returns-clause-broken
returns-clause-broken g c two = (
  c.in-Err.broken,
  dialogue-as (Err c.in-Err.broken) _ c.go_on.new.self _ _ _ _ c.in-Err.ensures.dialogue c.new.ensures,
  counts-why _ _ _ _ c.in-Err.ensures.read,
  counts-why _ _ _ _ c.in-Err.ensures.written,
  c.tell.ensures,
)
