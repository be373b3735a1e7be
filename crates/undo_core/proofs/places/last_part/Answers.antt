-- The values of the last change are those down to the one before that ends a change, or to the last place.
use Rattle.undo_core.proofs.Ending.{part-read}
use Rattle.undo_core.proofs.places.last_part.Goals as goal

pub returns : goal.returns
returns g c =
    part-read g.O.Pack.is_last c.args.all.now c.in-Some.rest c.in-Some.field-0-0 _ c.args.count c.run.result c.newest.result c.requires.count c.in-Some.ensures
    c.requires.places c.newest.ensures c.run.ensures.is
