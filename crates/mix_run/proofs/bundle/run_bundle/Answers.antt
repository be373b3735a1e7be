-- What was read of the bundle is all that the outcome looks at.
use Rattle.std.proofs.Common.{◌∙◌, ◌<◌, ◌≤◌, length, arith, Err}
use Rattle.mix_run.specs.declared.fault.ToolFault.TheVariants.{Long}
use Rattle.mix_run.proofs.RunLemmas.{Meets-bundle, Meets-long, Meets-parts}
use Rattle.mix_run.proofs.bundle.run_bundle.Goals as goal

pub returns-then-len-gt-MAX_BUNDLE_BYTES-clause-output : goal.returns-then-len-gt-MAX_BUNDLE_BYTES-clause-output
returns-then-len-gt-MAX_BUNDLE_BYTES-clause-output g c b hb =
    let long : 41943040 < length c.in_ok-bundle.bundle.items = omega (arith, c.in_ok-bundle.bundle.ok.0) in
    Meets-bundle b c.in_ok-bundle.bundle.items (Err Long) (g.W.Out.told c.args.out.now) (g.W.Out.told c.args.out.now) (c.in_ok-bundle.ensures.whole b hb).0
    (Meets-long c.in_ok-bundle.bundle.items (g.W.Out.told c.args.out.now) long)

pub returns-clause-output : goal.returns-clause-output
returns-clause-output g c b hb =
    let short : length c.deref.result.now ≤ 41943040 = omega (arith, c.deref.ensures.len) in
    Meets-bundle b _ _ _ _ (c.deref.ensures.value ∙ (c.in_ok-bundle.ensures.whole b hb).0)
    (Meets-parts _ _ _ _ _ _ _ short c.cut-parts.ensures.source c.cut-parts.ensures.deck c.cut-parts.ensures.script c.run_parts.ensures.output)
