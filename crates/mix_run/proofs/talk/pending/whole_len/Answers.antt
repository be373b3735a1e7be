use Rattle.std.proofs.Common.{◌≡◌, ◌+◌, ◌-◌, take, arith, ap, ◌∙◌, sym, rules}
use Rattle.mix_run.specs.Talk.{is_whole}
use Rattle.mix_run.proofs.TalkLemmas.{whole-take}
use Rattle.mix_run.proofs.talk.pending.whole_len.Goals as goal

pub returns-else-text-len-ne10-clause-whole : goal.returns-else-text-len-ne10-clause-whole
returns-else-text-len-ne10-clause-whole c =
    let text = c.args.text.now in
    let n = c.loop-len.len in
    let last : n - 1 + 1 ≡ n = omega (arith, c.loop-len-test.true) in
    ap (λ k. is_whole (take k text)) (sym last)
    ∙ whole-take text (n - 1) (omega (arith, c.loop-len-test.true, c.loop-len.invariant.0)) (search rules)
