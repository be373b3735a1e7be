use Rattle.std.proofs.Common.{◌∙◌, ap, replicate, sym}
use Rattle.std.proofs.lemmas.List.{length-set}
use Rattle.mix_machine.proofs.BreakLemmas.{none-set, set-break}
use Rattle.mix_machine.proofs.breakpoints.Breakpoints.set.Goals as goal

pub returns : goal.returns
returns c =
    let number = c.number-number.ensures in
    let bit = c.with_bit.ensures in
    set-break c.self.inside.words c.args.self.now c.args.p c.number-number.result c.from-index.result c.with_bit.result c.args.on number.is number.bound c.from-index.ensures c.self.told c.self.view_is bit.same bit.other

pub invariant_of-self : goal.invariant_of-self
invariant_of-self c = λ e.
    none-set _ (sym c.has_any-self-inside.ensures ∙ e)
    ∙ ap (λ n. replicate n 0) (length-set c.self.inside.words c.from-index.result c.with_bit.result ∙ c.self.told)
