-- One word more.
use Rattle.std.proofs.Common.{◌≡◌, ◌<◌, ◌-◌, arith, length, refl}
use Rattle.mix_session.specs.ShowUnit.{block_word_text}
use Rattle.mix_run.proofs.KeepLemmas.{added-all, added-more, numbers-next, numbers-none}
use Rattle.mix_run.proofs.keep.add_words.Goals as goal

pub loop-at-init : goal.loop-at-init
loop-at-init c = let all : length c.args.words.now - 0 ≡ length c.args.words.now = omega arith in rw all refl

pub loop-at-preserved : goal.loop-at-preserved
loop-at-preserved c =
    let there : c.loop-at.at < length c.args.words.now = omega (arith, c.loop-at-test.true) in
    added-more _ _ (block_word_text c.args.words.now c.loop-at.at) _ _ _ c.loop-at.invariant
    (numbers-next (block_word_text c.args.words.now) c.loop-at.at (length c.args.words.now) there) c.in_ok-add_word.ensures

pub returns : goal.returns
returns c =
    added-all _ _ _ c.loop-at.invariant
    (numbers-none (block_word_text c.args.words.now) c.loop-at.at (length c.args.words.now) (omega (arith, c.loop-at-test.false)))
