use Rattle.mix_session.proofs.altered.altered_in.Goals as goal

pub returns-in-Step : goal.returns-in-Step
returns-in-Step c = rw c.in-Step.is c.altered_among.ensures
