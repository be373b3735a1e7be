-- What was read of the text is all that the outcome looks at.
use Rattle.std.proofs.Common.{◌∙◌, Err, ap, subst}
use Rattle.std.proofs.lemmas.Result.{err_from_is_err_and}
use Rattle.mix_machine.specs.units.deck.Deck.{deck_of}
use Rattle.mix_run.specs.Prelude.{Meets, refusal_of, deck_given}
use Rattle.mix_run.proofs.DebugLemmas.{Debug-made, Debug-refused, deck-used, parts-taken}
use Rattle.mix_run.proofs.RunLemmas.{ConsumesAtMost-none, Meets-no_units, Meets-units}
use Rattle.mix_run.proofs.run.run_debug.Goals as goal

pub returns-in-Err-Memory-clause-deck : goal.returns-in-Err-Memory-clause-deck
returns-in-Err-Memory-clause-deck g c = ConsumesAtMost-none _ _

pub returns-in-Err-Memory-clause-script : goal.returns-in-Err-Memory-clause-script
returns-in-Err-Memory-clause-script g c = ConsumesAtMost-none _ _

pub returns-in-Err-Fault-clause-output : goal.returns-in-Err-Fault-clause-output
returns-in-Err-Fault-clause-output g c s d t hs hd ht =
    Debug-refused c.args.options.echo c.args.options.deck s _ _ d t _ _ _ _ (c.deref.ensures.value ∙ (c.in_ok-text.ensures.whole s hs).0) c.parts_of-parts.ensures.source
    (rw c.in-Err-Fault.field-0-is at c.in-Err-Fault.ensures.fault)
    (subst (λ fault. Meets (refusal_of fault) c.refuse_source.result (g.W.Out.told c.args.out.now) (g.W.Out.told c.refuse_source.new.out))
    c.in-Err-Fault.fault-is c.refuse_source.ensures.output)

pub returns-in-Err-Fault-clause-deck : goal.returns-in-Err-Fault-clause-deck
returns-in-Err-Fault-clause-deck g c = ConsumesAtMost-none _ _

pub returns-in-Err-Fault-clause-script : goal.returns-in-Err-Fault-clause-script
returns-in-Err-Fault-clause-script g c = ConsumesAtMost-none _ _

pub returns-in_err-units-in-Ok-clause-output : goal.returns-in_err-units-in-Ok-clause-output
returns-in_err-units-in-Ok-clause-output g c s d t hs hd ht =
    let p = err_from_is_err_and c.from_residual-in_err-units-in-Ok.result c.from_residual-in_err-units-in-Ok.ensures.1 in
    let own = c.parts_of-parts.result.deck.now in
    let told = g.W.Out.told c.args.out.now in
    rw (p.1, p.2) (Debug-made c.args.options.echo c.args.options.deck s _ _ own d t c.in-Ok.program (Err c.in_err-units-in-Ok.field-0.0) told told
    (c.deref.ensures.value ∙ (c.in_ok-text.ensures.whole s hs).0) c.parts_of-parts.ensures.source c.parts_of-parts.ensures.deck c.in-Ok.ensures.ok
    (Meets-no_units c.args.options.echo c.in-Ok.program (deck_of (deck_given c.args.options.deck own d)) t _ told (c.in_err-units-in-Ok.ensures.units d hd)))

pub returns-in_err-units-in-Ok-clause-bad_source : goal.returns-in_err-units-in-Ok-clause-bad_source
returns-in_err-units-in-Ok-clause-bad_source g c s f hs refused =
    absurd (parts-taken s _ _ _ f (c.deref.ensures.value ∙ (c.in_ok-text.ensures.whole s hs).0) c.parts_of-parts.ensures.source c.in-Ok.ensures.ok refused)

pub returns-in_err-units-in-Ok-clause-script : goal.returns-in_err-units-in-Ok-clause-script
returns-in_err-units-in-Ok-clause-script g c = ConsumesAtMost-none _ _

pub returns-clause-output : goal.returns-clause-output
returns-clause-output g c s d t hs hd ht =
    let own = c.parts_of-parts.result.deck.now in
    Debug-made c.args.options.echo c.args.options.deck s _ _ own d t _ _ _ _ (c.deref.ensures.value ∙ (c.in_ok-text.ensures.whole s hs).0) c.parts_of-parts.ensures.source
    c.parts_of-parts.ensures.deck c.in-Ok.ensures.ok
    (Meets-units c.args.options.echo _ _ (deck_given c.args.options.deck own d) t _ _ _ (c.in_ok-units-in-Ok.ensures.units d hd) (c.run_script.ensures.output t ht))

pub returns-clause-bad_source : goal.returns-clause-bad_source
returns-clause-bad_source g c s f hs refused =
    absurd (parts-taken s _ _ _ f (c.deref.ensures.value ∙ (c.in_ok-text.ensures.whole s hs).0) c.parts_of-parts.ensures.source c.in-Ok.ensures.ok refused)

pub returns-clause-bad_deck : goal.returns-clause-bad_deck
returns-clause-bad_deck g c s d f hs hd refused =
    let used = deck-used c.args.options.deck s _ _ d (c.deref.ensures.value ∙ (c.in_ok-text.ensures.whole s hs).0) c.parts_of-parts.ensures.deck in
    let made = c.in_ok-units-in-Ok.ensures.units d hd in
    let fault = ap deck_of used ∙ refused in cc
