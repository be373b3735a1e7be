-- The changes taken back at a time are so many more from where the loop began.
use Rattle.std.proofs.Common.{◌-◌, arith}
use Rattle.mix_session.proofs.TimelineLemmas.{back_by-none, back_by-next}
use Rattle.mix_session.proofs.command.go_back.Goals as goal

pub loop-taken-init : goal.loop-taken-init
loop-taken-init c = record { within = omega arith; back = back_by-none c.args.journal.now }

pub loop-taken-preserved : goal.loop-taken-preserved
loop-taken-preserved c = record {
  within = omega (arith, c.back_many-taken.ensures.within, c.loop-taken-test.true);
  back = back_by-next c.args.journal.now _ _ c.loop-taken.taken c.back_many-taken.result (omega (arith, c.back_many-taken.ensures.within, c.loop-taken.invariant.within, c.requires))
      c.loop-taken.invariant.back c.back_many-taken.ensures.first c.back_many-taken.ensures.changes c.back_many-taken.ensures.all;
}
