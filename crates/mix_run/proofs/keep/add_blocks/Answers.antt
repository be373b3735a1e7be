-- One block more.
use Rattle.std.proofs.Common.{◌<◌, [], arith, length}
use Rattle.mix_run.specs.Keep.{kept_block}
use Rattle.mix_run.proofs.KeepLemmas.{added-all, added-more, items-next, items-none}
use Rattle.mix_run.proofs.keep.add_blocks.Goals as goal

pub loop-at-preserved : goal.loop-at-preserved
loop-at-preserved c =
    let there : c.loop-at.at < length c.args.unit.now.blocks = omega (arith, c.loop-at-test.true, c.blocks-in-loop-at.ensures) in
    added-more _ _ (kept_block c.args.kind c.block_at.result.now) _ _ _ c.loop-at.invariant
    (items-next (kept_block c.args.kind) c.args.unit.now.blocks c.loop-at.at [] c.block_at.result.now there c.block_at.ensures) c.in_ok-add_block.ensures

pub returns : goal.returns
returns c =
    added-all _ _ _ c.loop-at.invariant
    (items-none (kept_block c.args.kind) c.args.unit.now.blocks c.loop-at.at (omega (arith, c.loop-at-test.false, c.blocks-in-loop-at.ensures)))
