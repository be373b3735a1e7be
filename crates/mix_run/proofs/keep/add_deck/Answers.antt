-- One unit more.
use Rattle.std.proofs.Common.{◌<◌, arith}
use Rattle.mix_word.specs.Uses.{unit_count}
use Rattle.mix_run.specs.Keep.{kept_at, kept_deck}
use Rattle.mix_run.proofs.KeepLemmas.{added-all, added-more, numbers-next, numbers-none}
use Rattle.mix_run.proofs.keep.add_deck.Goals as goal

pub loop-number-preserved : goal.loop-number-preserved
loop-number-preserved c =
    let there : c.loop-number.number < unit_count = omega (arith, c.loop-number-test.true) in
    record {
      within = omega (arith, c.loop-number-test.true);
      text = added-more _ _ (kept_at c.args.world.now c.loop-number.number) _ _ _ c.loop-number.invariant.text
          (numbers-next (kept_at c.args.world.now) c.loop-number.number unit_count there) c.in_ok-add_unit.ensures;
    }

pub returns : goal.returns
unfolding kept_deck
returns c =
    added-all _ _ _ c.loop-number.invariant.text
    (numbers-none (kept_at c.args.world.now) c.loop-number.number unit_count (omega (arith, c.loop-number-test.false)))
