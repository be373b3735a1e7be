-- What the values left name, with what was seen, is what all name.
use Rattle.std.proofs.Common.{◌∙◌, [], ◌∷◌, ap, length, length-append, refl, arith}
use Rattle.mix_session.proofs.NamedLemmas.{any-last, any-none}
use Rattle.mix_session.specs.Named.{is_of}
use Rattle.mix_session.proofs.altered.near.named_in.Goals as goal

pub loop-init : goal.loop-init
loop-init c = record { many = omega arith; within = omega arith; others = λ n outside. rw c.copied-left.ensures refl }

pub loop-preserved : goal.loop-preserved
loop-preserved c =
    let all = ap length c.in-Some.ensures ∙ length-append c.pop.new.self (c.in-Some.value ∷ []) in
    record {
      many = omega (arith, c.loop.invariant.many, all);
      within = c.with_named-numbers.ensures.within;
      others = λ n outside. c.loop.invariant.others n (c.with_named-numbers.ensures.others n outside)
          ∙ any-last (is_of c.args.kind n) _ _ _ c.in-Some.ensures (c.with_named-numbers.ensures.here n outside);
    }

pub returns-clause-others : goal.returns-clause-others
returns-clause-others c = λ n outside. c.loop.invariant.others n outside ∙ any-none (is_of c.args.kind n) c.loop.left (omega (arith, c.loop.invariant.many))
