-- The run is that of the journal, which is the timeline of the session.
use Rattle.std.proofs.Common.{◌∙◌, List, ap, Some, subst}
use Rattle.mix_session.specs.BrokenOff.{watches, IsBefore}
use Rattle.mix_session.specs.Prelude.{Effect, effect_of_run, Timeline, Knows, SessionState, StopsState, Condition}
use Rattle.mix_session.proofs.AgainLemmas.{run-on}
use Rattle.mix_session.proofs.CommandLemmas.{begun-broken, broken-before, broken-none, conflict-some, if_err, limit-is, watched-some}
use Rattle.mix_session.proofs.session.Session.run.Goals as goal

pub returns-in_err-marks-clause-memory : goal.returns-in_err-marks-clause-memory
returns-in_err-marks-clause-memory c =
    let watched = ap (λ (s : StopsState). s.watched) c.stops.view_is in
    if_err c.from_residual.result _ (broken-none (watches c.args.stops.now) (effect_of_run c.args.way c.args.stops.now c.args.self.now.timeline c.args.most) c.args.self.now.timeline
    (watched-some _ c.args.stops.now.watched watched c.in_err-marks.ensures.memory))

pub returns-in_err-known-clause-memory : goal.returns-in_err-known-clause-memory
returns-in_err-known-clause-memory c =
    let watched = ap (λ (s : StopsState). s.watched) c.stops.view_is in
    if_err c.from_residual-in_err-known.result _
    (broken-none (watches c.args.stops.now) (effect_of_run c.args.way c.args.stops.now c.args.self.now.timeline c.args.most) c.args.self.now.timeline
    (conflict-some _ c.args.stops.now.watched watched c.in_err-known.ensures.memory))

pub returns-in_err-made-clause-memory : goal.returns-in_err-made-clause-memory
returns-in_err-made-clause-memory c =
    let same = ap (λ (s : SessionState). s.timeline) c.self.view_is in
    let ran = subst (λ (e : Effect). IsBefore e c.run_on.new.journal) (c.way_on-onward.ensures.same c.args.stops.now c.args.most) c.in_err-made.ensures.memory in
    let before = subst (λ (t : Timeline). IsBefore (effect_of_run c.args.way c.args.stops.now t c.args.most) c.run_on.new.journal) same ran in
    broken-before c.from_residual-in_err-made.result (watches c.args.stops.now) (effect_of_run c.args.way c.args.stops.now c.args.self.now.timeline c.args.most)
    c.args.self.now.timeline c.run_on.new.journal (if_err c.from_residual-in_err-made.result _ before)

pub returns-in_err-marks-clause-begun : goal.returns-in_err-marks-clause-begun
returns-in_err-marks-clause-begun c =
    begun-broken c.from_residual.result (watches c.args.stops.now) c.args.way c.args.stops.now c.args.self.now.timeline c.args.self.now.timeline c.args.most
    (returns-in_err-marks-clause-memory c)

pub returns-in_err-known-clause-begun : goal.returns-in_err-known-clause-begun
returns-in_err-known-clause-begun c =
    begun-broken c.from_residual-in_err-known.result (watches c.args.stops.now) c.args.way c.args.stops.now c.args.self.now.timeline c.args.self.now.timeline c.args.most
    (returns-in_err-known-clause-memory c)

pub returns-in_err-made-clause-begun : goal.returns-in_err-made-clause-begun
returns-in_err-made-clause-begun c =
    begun-broken c.from_residual-in_err-made.result (watches c.args.stops.now) c.args.way c.args.stops.now c.args.self.now.timeline c.run_on.new.journal c.args.most
    (returns-in_err-made-clause-memory c)

pub run_on-requires-clause-known : goal.run_on-requires-clause-known
run_on-requires-clause-known c =
    let watched = ap (λ (s : StopsState). s.watched) c.stops.view_is in
    subst (λ (w : List Condition). Knows w c.way_on-onward.result c.in_ok-known.known c.self.inside.journal) watched (c.in_ok-known.ensures.known c.way_on-onward.result)

pub returns-clause-effect : goal.returns-clause-effect
returns-clause-effect c =
    let done = c.in_ok-made.ensures in
    run-on c.args.way c.way_on-onward.result c.args.stops.now c.args.self.now.timeline c.self.inside.journal c.run_on.new.journal c.args.most _ _
    (ap (λ (s : SessionState). s.timeline) c.self.view_is) (c.way_on-onward.ensures.same c.args.stops.now c.args.most) done.moved done.within done.end done.least

pub returns-clause-limit : goal.returns-clause-limit
returns-clause-limit c =
    λ is. limit-is c.way_on-onward.result c.args.stops.now c.self.inside.journal c.args.most _ (c.in_ok-made.ensures.end ∙ ap Some is)
