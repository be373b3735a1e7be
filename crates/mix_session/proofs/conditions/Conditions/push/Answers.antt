-- There is room for one more.
use Rattle.mix_session.proofs.PlacesLemmas.{kept-push}
use Rattle.mix_session.proofs.conditions.Conditions.push.Goals as goal

pub invariant_of-self : goal.invariant_of-self
invariant_of-self c = kept-push c.self.inside.places c.self.inside.count c.args.condition c.self.invariant (rw c.self.view_is c.requires)
