-- The mark that the values left give with the one found is the one that all give.
use Rattle.std.proofs.Common.{◌∙◌, [], ◌∷◌, ap, length, length-append, arith}
use Rattle.mix_machine.proofs.MarkLemmas.{mark_before-last}
use Rattle.mix_machine.proofs.part.mark_before.Goals as goal

pub loop-preserved : goal.loop-preserved
loop-preserved c =
    let all = ap length c.in-Some.ensures ∙ length-append c.pop.new.self (c.in-Some.value ∷ []) in
    record {
      many = omega (arith, c.loop.invariant.many, all);
      before = mark_before-last _ _ _ _ _ _ c.in-Some.ensures c.mark_or-before.ensures ∙ c.loop.invariant.before;
    }
