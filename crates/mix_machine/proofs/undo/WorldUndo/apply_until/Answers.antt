-- A step again and again ends where what is watched stops it.
use Rattle.mix_machine.proofs.undo.WorldUndo.apply_until.Goals.{in-Step, in_default}
use Rattle.mix_machine.proofs.undo.WorldUndo.apply_until.Goals as goal

pub returns-then-matches-clause-done : goal.returns-then-matches-clause-done
returns-then-matches-clause-done c =
    elim c.match-matches.branch [
      | in-Step w ↦ rw (w.in-Step.is, ← c.watch.ensures) c.steps.ensures.done
      | in_default w ↦ absurd (cc (c.if-matches.true, w.matches-is))
    ]
