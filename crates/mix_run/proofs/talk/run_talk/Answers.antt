-- What was read of the text and of the deck is all that the talk looks at; over a text that a
-- script may have it is that script.
use Rattle.std.proofs.Common.{◌≡◌, ◌∙◌, Ok, Err, ap, false, inl, inr, refl, subst, sym}
use Rattle.mix_lines.specs.Lines.{lines}
use Rattle.std.proofs.lemmas.Result.{err_from_is_err_and}
use Rattle.mixal_asm.specs.Assembly.{assembly}
use Rattle.mix_machine.specs.units.deck.Deck.{deck_of}
use Rattle.mix_refused.specs.declared.refused.Refused.TheVariants as reads
use Rattle.mix_run.specs.Prelude.{debug_output, origin_given, output, parts_of, GivesUnits, deck_given}
use Rattle.mix_run.specs.declared.fault.ToolFault.TheVariants.{Long}
use Rattle.mix_run.proofs.DebugLemmas.{Debug-made, Debug-refused, deck-used, parts-made, parts-taken, parts-whole}
use Rattle.mix_run.proofs.RunLemmas.{ConsumesAtMost-none, Meets-no_units}
use Rattle.mix_run.proofs.TalkMeets.{Knows-program, TalksWith-given, TalksWith-made, TalksWith-no_units, TalksWith-script, TalksWith-unread, counts-after, no_files, not-long, saved-as}
use Rattle.mix_run.proofs.talk.run_talk.Goals as goal

pub returns-in_err-text-clause-talks : goal.returns-in_err-text-clause-talks
returns-in_err-text-clause-talks g c all s d t hs hd ht known =
    let p = err_from_is_err_and c.from_residual.result c.from_residual.ensures.1 in
    let origin = origin_given c.args.name.now c.args.given s d in
    rw (p.1, p.2) (TalksWith-unread all origin (assembly origin.source) (deck_of origin.deck) c.args.streams.now.talker t _ _ _ ht)

pub returns-in-Err-Memory-clause-talks : goal.returns-in-Err-Memory-clause-talks
returns-in-Err-Memory-clause-talks g c all s d t hs hd ht known =
    let origin = origin_given c.args.name.now c.args.given s d in
    TalksWith-unread all origin (assembly origin.source) (deck_of origin.deck) c.args.streams.now.talker t reads.Memory _ _ ht

pub returns-in-Err-Memory-clause-deck : goal.returns-in-Err-Memory-clause-deck
returns-in-Err-Memory-clause-deck g c = ConsumesAtMost-none _ _

pub returns-in-Err-Fault-clause-talks : goal.returns-in-Err-Fault-clause-talks
returns-in-Err-Fault-clause-talks g c all s d t hs hd ht known =
    let origin = origin_given c.args.name.now c.args.given s d in
    TalksWith-made all origin (assembly origin.source) (Err c.in-Err-Fault.fault) (deck_of origin.deck) c.args.streams.now.talker t _ _ _ _
    (parts-made s _ _ _ (c.deref.ensures.value ∙ (c.in_ok-text.ensures.whole s hs).0) c.parts_of-parts.ensures.source
    (rw c.in-Err-Fault.field-0-is at c.in-Err-Fault.ensures.fault)) c.refuse_source.ensures.output

pub returns-in-Err-Fault-clause-deck : goal.returns-in-Err-Fault-clause-deck
returns-in-Err-Fault-clause-deck g c = ConsumesAtMost-none _ _

pub returns-in-Err-clause-talks : goal.returns-in-Err-clause-talks
returns-in-Err-clause-talks g c all s d t hs hd ht known =
    let read = c.deref.ensures.value ∙ (c.in_ok-text.ensures.whole s hs).0 in
    let origin = origin_given c.args.name.now c.args.given s d in
    let used = deck-used c.args.given s _ _ d read c.parts_of-parts.ensures.deck in
    TalksWith-made all origin (assembly origin.source) (Ok c.in-Ok.program) (deck_of origin.deck) c.args.streams.now.talker t (Err c.in-Err.fault) _ _ _
    (parts-made s _ _ _ read c.parts_of-parts.ensures.source c.in-Ok.ensures.ok)
    (TalksWith-no_units all origin c.in-Ok.program (deck_of origin.deck) c.args.streams.now.talker t c.in-Err.fault _ _ ht
    (subst (λ x. GivesUnits (deck_of x) (Err c.in-Err.fault)) used (c.in-Err.ensures.units d hd)))

pub returns-in-Err-clause-long : goal.returns-in-Err-clause-long
returns-in-Err-clause-long g c e d t hd ht =
    let same : c.in-Err.fault ≡ Long = cc in
    absurd (not-long _ c.in-Err.fault (c.in-Err.ensures.units d hd) same)

pub returns-in-Err-clause-long_line : goal.returns-in-Err-clause-long_line
returns-in-Err-clause-long_line g c e d t hd ht counted =
    let same : c.in-Err.fault ≡ Long = cc in
    absurd (not-long _ c.in-Err.fault (c.in-Err.ensures.units d hd) same)

pub returns-in-Err-begin-clause-talks : goal.returns-in-Err-begin-clause-talks
returns-in-Err-begin-clause-talks g c all s d t hs hd ht known =
    let origin = origin_given c.args.name.now c.args.given s d in
    TalksWith-unread all origin (assembly origin.source) (deck_of origin.deck) c.args.streams.now.talker t reads.Memory _ _ ht

pub returns-clause-talks : goal.returns-clause-talks
returns-clause-talks g c all s d t hs hd ht known =
    let read = c.deref.ensures.value ∙ (c.in_ok-text.ensures.whole s hs).0 in
    let used = deck-used c.args.given s _ _ d read c.parts_of-parts.ensures.deck in
    TalksWith-given all c.args.name.now (parts_of s).source (deck_given c.args.given (parts_of s).deck d) _ _ c.in-Ok.program _ c.args.streams.now.talker t _ _ _ _
    (parts-whole s _ _ _ read c.parts_of-parts.ensures.source c.in-Ok.ensures.ok)
    (c.in-Ok-given_deck.ensures.text d hd ∙ used) c.in-Ok.ensures.ok
    (sym (ap deck_of used) ∙ c.in-Ok-given_deck.ensures.units d hd) (rw c.in-Ok-begin.ensures at c.talk.ensures.talks all t ht known)

pub returns-clause-read : goal.returns-clause-read
returns-clause-read g c =
    counts-after _ _ _ _ _ _ _ (c.in_ok-text.ensures.failed.1 (λ e. e)) (c.in-Ok-given_deck.ensures.read.1 (λ e. cc)) c.talk.ensures.read

pub returns-clause-long : goal.returns-clause-long
returns-clause-long g c e d t hd ht = c.talk.ensures.long e t ht

pub returns-clause-long_line : goal.returns-clause-long_line
returns-clause-long_line g c e d t hd ht counted = c.talk.ensures.long_line e t ht counted

pub returns-in-Err-clause-bad_source : goal.returns-in-Err-clause-bad_source
returns-in-Err-clause-bad_source g c s f hs refused =
    absurd (parts-taken s _ _ _ f (c.deref.ensures.value ∙ (c.in_ok-text.ensures.whole s hs).0) c.parts_of-parts.ensures.source c.in-Ok.ensures.ok refused)

pub returns-in-Err-begin-clause-bad_source : goal.returns-in-Err-begin-clause-bad_source
returns-in-Err-begin-clause-bad_source g c s f hs refused =
    absurd (parts-taken s _ _ _ f (c.deref.ensures.value ∙ (c.in_ok-text.ensures.whole s hs).0) c.parts_of-parts.ensures.source c.in-Ok.ensures.ok refused)

pub returns-clause-bad_source : goal.returns-clause-bad_source
returns-clause-bad_source g c s f hs refused =
    absurd (parts-taken s _ _ _ f (c.deref.ensures.value ∙ (c.in_ok-text.ensures.whole s hs).0) c.parts_of-parts.ensures.source c.in-Ok.ensures.ok refused)

pub returns-in-Err-begin-clause-bad_deck : goal.returns-in-Err-begin-clause-bad_deck
returns-in-Err-begin-clause-bad_deck g c s d f hs hd refused =
    let used = deck-used c.args.given s _ _ d (c.deref.ensures.value ∙ (c.in_ok-text.ensures.whole s hs).0) c.parts_of-parts.ensures.deck in
    let same = ap deck_of used ∙ refused in
    let made = c.in-Ok-given_deck.ensures.units d hd in cc

pub returns-clause-bad_deck : goal.returns-clause-bad_deck
returns-clause-bad_deck g c s d f hs hd refused =
    let used = deck-used c.args.given s _ _ d (c.deref.ensures.value ∙ (c.in_ok-text.ensures.whole s hs).0) c.parts_of-parts.ensures.deck in
    let same = ap deck_of used ∙ refused in
    let made = c.in-Ok-given_deck.ensures.units d hd in cc

pub returns-in-Err-Fault-clause-input_in_turn : goal.returns-in-Err-Fault-clause-input_in_turn
returns-in-Err-Fault-clause-input_in_turn g c d hd asked = inl refl

pub returns-in-Err-begin-clause-input_in_turn : goal.returns-in-Err-begin-clause-input_in_turn
returns-in-Err-begin-clause-input_in_turn g c d hd asked = inr (c.in-Ok-given_deck.ensures.whole d hd asked)

pub returns-clause-input_in_turn : goal.returns-clause-input_in_turn
returns-clause-input_in_turn g c d hd asked = inr (c.in-Ok-given_deck.ensures.whole d hd asked)

pub returns-in-Err-Fault-clause-saved : goal.returns-in-Err-Fault-clause-saved
returns-in-Err-Fault-clause-saved g c all s d t p u hs hd ht known made units =
    absurd (let refused = parts-made s _ _ (Err c.in-Err-Fault.fault) (c.deref.ensures.value ∙ (c.in_ok-text.ensures.whole s hs).0) c.parts_of-parts.ensures.source
    (rw c.in-Err-Fault.field-0-is at c.in-Err-Fault.ensures.fault) in let both = sym refused ∙ made in cc)

pub returns-clause-saved : goal.returns-clause-saved
returns-clause-saved g c all s d t p u hs hd ht known made units =
    let read = c.deref.ensures.value ∙ (c.in_ok-text.ensures.whole s hs).0 in
    let used = deck-used c.args.given s _ _ d read c.parts_of-parts.ensures.deck in
    saved-as _ all c.args.name.now (parts_of s).source (deck_given c.args.given (parts_of s).deck d) _ _ p c.in-Ok.program u _ c.args.streams.now.talker (lines t) _ _
    (parts-whole s _ _ _ read c.parts_of-parts.ensures.source c.in-Ok.ensures.ok)
    (c.in-Ok-given_deck.ensures.text d hd ∙ used) c.in-Ok.ensures.ok
    (sym (ap deck_of used) ∙ c.in-Ok-given_deck.ensures.units d hd) made units (rw c.in-Ok-begin.ensures at c.talk.ensures.saved all t ht known)

pub returns-in-Err-Fault-clause-as_script : goal.returns-in-Err-Fault-clause-as_script
returns-in-Err-Fault-clause-as_script g c s d t hs hd ht is le unread =
    Debug-refused false c.args.given s _ _ d t c.in-Err-Fault.fault _ _ _ (c.deref.ensures.value ∙ (c.in_ok-text.ensures.whole s hs).0) c.parts_of-parts.ensures.source
    (rw c.in-Err-Fault.field-0-is at c.in-Err-Fault.ensures.fault) c.refuse_source.ensures.output

pub returns-in-Err-clause-as_script : goal.returns-in-Err-clause-as_script
returns-in-Err-clause-as_script g c s d t hs hd ht is le unread =
    let own = c.parts_of-parts.result.deck.now in
    let told = g.W.Out.told c.args.streams.now.out in
    Debug-made false c.args.given s _ _ own d t c.in-Ok.program (Err c.in-Err.fault) told told
    (c.deref.ensures.value ∙ (c.in_ok-text.ensures.whole s hs).0) c.parts_of-parts.ensures.source c.parts_of-parts.ensures.deck c.in-Ok.ensures.ok
    (Meets-no_units false c.in-Ok.program (deck_of (deck_given c.args.given own d)) t c.in-Err.fault told (c.in-Err.ensures.units d hd))

pub returns-clause-as_script : goal.returns-clause-as_script
unfolding debug_output output
returns-clause-as_script g c s d t hs hd ht is le unread =
    let origin = origin_given c.args.name.now c.args.given s d in
    TalksWith-script no_files origin (assembly origin.source) (deck_of origin.deck) c.args.streams.now.talker t _ _ _ _ is le unread (λ e. c.talk.ensures.long e t ht)
    (returns-clause-talks g c no_files s d t hs hd ht (Knows-program _ no_files c.args.streams.now.talker _ is))
