-- The last of the values that can be put back fits.
use Rattle.undo_core.proofs.Reverting.{last-of-fits}
use Rattle.undo_core.proofs.undo.Undo.restore_some.Goals as goal

pub restore-requires : goal.restore-requires
restore-requires g c =
    last-of-fits g.Self.Undo.put _ _ _ c.args.most c.args.self.now c.in-Some.ensures c.requires.some c.requires.within c.requires.fits
