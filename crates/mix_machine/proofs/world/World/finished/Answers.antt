use Rattle.std.proofs.Common.{◌≤◌, length, sym, subst, arith}
use Rattle.mix_word.specs.declared.decoding.Decoded.TheVariants.{Named}
use Rattle.mix_machine.specs.Prelude.{IsWorld, writes_of, most_kept}
use Rattle.mix_machine.specs.law.Undone.{step-fits}
use Rattle.mix_machine.proofs.Counting.{few_in_step}
use Rattle.mix_machine.proofs.world.World.finished.Goals as goal

pub perform-requires-clause-fits : goal.perform-requires-clause-fits
perform-requires-clause-fits c =
    (step-fits (Named c.args.operation) c.args.self.now c.args.a c.in-Ok.plan (subst IsWorld c.self.view_is c.self.invariant) (sym c.in-Ok.ensures)).0

pub perform-requires-clause-units : goal.perform-requires-clause-units
perform-requires-clause-units c =
    (step-fits (Named c.args.operation) c.args.self.now c.args.a c.in-Ok.plan (subst IsWorld c.self.view_is c.self.invariant) (sym c.in-Ok.ensures)).1

pub perform-requires-clause-room : goal.perform-requires-clause-room
perform-requires-clause-room c =
    let few : length (writes_of c.args.self.now c.in-Ok.plan) ≤ most_kept = few_in_step (Named c.args.operation) c.args.self.now c.args.a c.in-Ok.plan c.requires.f (sym c.in-Ok.ensures) in
    let room = c.in_ok-reserve-in-Ok.ensures in
    omega (arith, few)
