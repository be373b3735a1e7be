-- So many changes are taken back at once as the run takes back one at a time.
use Rattle.std.proofs.Common.{◌∙◌, [], length, refl}
use Rattle.mix_session.specs.Stops.{at_breaks}
use Rattle.mix_session.specs.declared.command.stops.Way.TheVariants.{Back}
use Rattle.mix_session.proofs.CommandLemmas.{count_of_run-is, moved-back}
use Rattle.mix_session.proofs.command.runs.back_break.Goals as goal

pub run_on-requires-clause-known : goal.run_on-requires-clause-known
run_on-requires-clause-known c = rw c.stops_at-stops.ensures (c.nothing-known.ensures [] Back c.args.journal.now refl)

pub returns : goal.returns
returns c =
    let done = c.in-Ok.ensures in
    let stops = c.stops_at-stops.ensures in
    let all = c.done-all.ensures.count in
    let within = rw all at done.within in
    rw (count_of_run-is Back at_breaks c.args.journal.now (length c.args.journal.now.changes) c.in-Ok.count c.in-Ok.field-0-1 within
    (rw (stops, all) at done.end) (rw (stops, all) at done.least))
    (done.first, done.moved ∙ moved-back c.args.journal.now c.in-Ok.count within, refl)
