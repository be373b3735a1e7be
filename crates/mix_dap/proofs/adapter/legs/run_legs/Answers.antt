-- One leg more, for which fewer changes are left.
use Rattle.std.proofs.Common.{◌∙◌}
use Rattle.mix_dap.specs.Runs.{Leg, first_leg}
use Rattle.mix_dap.proofs.LegLemmas.{leg_more, leg_shorter}
use Rattle.mix_dap.proofs.adapter.legs.run_legs.Goals as goal

pub legs-smaller : goal.legs-smaller
legs-smaller c =
    let leg : Leg = record { points = c.legs.points; timeline = c.legs.session.timeline; left = c.legs.left } in
    leg_shorter c.args.way leg c.in_ok-made.made c.in_ok-made.end c.run_leg.new.points c.saturating_sub-left.result _ _ c.passes_by.result
    c.in_ok-made.ensures.done.1 c.passes_by.ensures c.if-not-passes_by.false c.saturating_sub-left.ensures

pub legs-preserved : goal.legs-preserved
legs-preserved c =
    let leg : Leg = record { points = c.legs.points; timeline = c.legs.session.timeline; left = c.legs.left } in
    record {
      program = c.in_ok-made.ensures.program ∙ c.legs.invariant.program;
      first = c.in_ok-made.ensures.first ∙ c.legs.invariant.first;
      passed = leg_more c.args.way (first_leg c.args.way c.args.points.now c.args.session.now.timeline) leg c.in_ok-made.made c.in_ok-made.end c.run_leg.new.points
          c.run_leg.new.session.timeline c.saturating_sub-left.result _ _ c.passes_by.result c.legs.invariant.passed c.in_ok-made.ensures.done.1
          c.in_ok-made.ensures.done.0 c.in_ok-made.ensures.done.2 c.awaited_by.ensures c.world.ensures c.passes_by.ensures c.if-not-passes_by.false
          c.saturating_sub-left.ensures;
    }
