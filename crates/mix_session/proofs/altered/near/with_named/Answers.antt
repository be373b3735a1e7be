use Rattle.mix_session.proofs.NamedLemmas.{outside-others, outside-here, none-named}
use Rattle.mix_session.proofs.altered.near.with_named.Goals as goal

pub returns-in-None-clause-here : goal.returns-in-None-clause-here
returns-in-None-clause-here c = λ n outside. none-named n _ _ c.number_in.ensures.is c.in-None.is

pub returns-in-Some-clause-others : goal.returns-in-Some-clause-others
returns-in-Some-clause-others c = λ n outside. outside-others c.args.numbers c.with.result c.in-Some.number n c.with.ensures.first c.with.ensures.end outside

pub returns-in-Some-clause-here : goal.returns-in-Some-clause-here
returns-in-Some-clause-here c =
    λ n outside. outside-here c.args.numbers c.with.result c.in-Some.number n _ _ c.with.ensures.first c.with.ensures.end outside c.number_in.ensures.is c.in-Some.is
