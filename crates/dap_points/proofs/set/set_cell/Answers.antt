-- The cell is set, or, for want of memory, it may not be.
use Rattle.std.proofs.Common.{[], ◌∷◌}
use Rattle.dap_points.proofs.WrittenLemmas.{sets-all, sets-done, sets-begun}
use Rattle.dap_points.proofs.set.set_cell.Goals as goal

pub returns-in-Err-clause-some : goal.returns-in-Err-clause-some
returns-in-Err-clause-some c = sets-begun c.args.session.now.timeline c.execute.new.self.timeline c.args.cell c.in-Err.ensures.effect.1

pub returns-in-Ok-clause-all : goal.returns-in-Ok-clause-all
returns-in-Ok-clause-all c = sets-done c.args.session.now.timeline c.execute.new.self.timeline c.args.cell c.in-Ok.ensures.effect.1

pub returns-in-Ok-clause-some : goal.returns-in-Ok-clause-some
returns-in-Ok-clause-some c =
    sets-all c.args.session.now.timeline c.execute.new.self.timeline (c.args.cell ∷ [])
    (sets-done c.args.session.now.timeline c.execute.new.self.timeline c.args.cell c.in-Ok.ensures.effect.1)
