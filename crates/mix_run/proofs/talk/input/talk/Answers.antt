-- What is said of the parts that were read holds of the whole text.
use Rattle.std.proofs.Common.{◌∙◌, ◌<◌, [], ◌++◌, Ok, length, take, ap, refl, sym, arith, rules}
use Rattle.mix_run.specs.Talk.{is_whole}
use Rattle.std.proofs.lemmas.List.{length-append}
use Rattle.std.proofs.KnownBytes.{Consumes-nil, Consumes-trans}
use Rattle.mix_run.specs.declared.fault.ToolFault.TheVariants.{Memory}
use Rattle.mix_run.proofs.HearingLemmas.{Hears-lines, Hears-nothing, Hears-on, Hears-then, Talks-begun, end-answered, end-begun, end-known, ended, long-text, more-begun, more-known, too-long, unread-failed, unread-long}
use Rattle.mix_run.proofs.TalkLemmas.{all-read, kept-known, left-known, read-more}
use Rattle.mix_run.proofs.Written.{Appends-nothing}
use Rattle.mix_run.proofs.talk.input.talk.Goals as goal

pub loop-reads-init : goal.loop-reads-init
loop-reads-init g c = record {
  heard = ([], Consumes-nil _, omega arith, Hears-nothing _ _ c.args.streams.now.talker _ _ _ refl c.new-pending.ensures.items refl);
  read = refl;
  written = refl;
  unasked = refl;
  held = refl;
  untouched = λ e. refl;
}

pub returns-in-Ok-answer_text-clause-talks : goal.returns-in-Ok-answer_text-clause-talks
returns-in-Ok-answer_text-clause-talks g c all t e knows =
    let so_far = c.loop-reads.invariant.heard in
    let none = c.if-count-eq0.true in
    let some : 0 < length c.read.new.buf = search rules in
    let whole = all-read _ _ _ t _ _ e so_far.1 c.in-Ok.ensures.bytes.0 (ap (λ n. take n c.read.new.buf) none) (c.in-Ok.ensures.bytes.1 none some) in
    let done = end-answered _ _ c.args.streams.now.talker so_far.0 c.loop-reads.pending.items c.loop-reads.told _ _ so_far.3 c.loop-reads.invariant.held all t knows c.deref.result.now whole c.deref.ensures.value _ _ _ _
    (c.in-Ok-answer_text.ensures.answered all (end-known _ _ c.args.streams.now.talker so_far.0 c.loop-reads.pending.items c.loop-reads.told _ _ so_far.3 c.loop-reads.invariant.held all t knows c.deref.result.now whole c.deref.ensures.value)) in
    (Ok c.and.result, ap (λ s. Ok s) c.status.ensures, (c.and.ensures ∙ done.told, done.written))

pub returns-in-Ok-answer_text-clause-saved : goal.returns-in-Ok-answer_text-clause-saved
returns-in-Ok-answer_text-clause-saved g c all t e knows =
    let so_far = c.loop-reads.invariant.heard in
    let none = c.if-count-eq0.true in
    let some : 0 < length c.read.new.buf = search rules in
    let whole = all-read _ _ _ t _ _ e so_far.1 c.in-Ok.ensures.bytes.0 (ap (λ n. take n c.read.new.buf) none) (c.in-Ok.ensures.bytes.1 none some) in
    let done = end-answered _ _ c.args.streams.now.talker so_far.0 c.loop-reads.pending.items c.loop-reads.told _ _ so_far.3 c.loop-reads.invariant.held all t knows c.deref.result.now whole c.deref.ensures.value _ _ _ (g.W.Out.told c.answer_text.new.out)
    (c.in-Ok-answer_text.ensures.answered all (end-known _ _ c.args.streams.now.talker so_far.0 c.loop-reads.pending.items c.loop-reads.told _ _ so_far.3 c.loop-reads.invariant.held all t knows c.deref.result.now whole c.deref.ensures.value)) in
    done.saved

pub returns-in-Err-answer_text-clause-talks : goal.returns-in-Err-answer_text-clause-talks
returns-in-Err-answer_text-clause-talks g c all t e knows =
    let so_far = c.loop-reads.invariant.heard in
    let none = c.if-count-eq0.true in
    let some : 0 < length c.read.new.buf = search rules in
    let whole = all-read _ _ _ t _ _ e so_far.1 c.in-Ok.ensures.bytes.0 (ap (λ n. take n c.read.new.buf) none) (c.in-Ok.ensures.bytes.1 none some) in
    Talks-begun all _ c.args.streams.now.talker t c.in-Err-answer_text.fault _ _ _ c.in-Err-answer_text.ensures.only
    (end-begun _ _ c.args.streams.now.talker so_far.0 c.loop-reads.pending.items c.loop-reads.told _ _ so_far.3 c.loop-reads.invariant.held all t knows c.deref.result.now whole c.deref.ensures.value _
    (c.in-Err-answer_text.ensures.begun all (end-known _ _ c.args.streams.now.talker so_far.0 c.loop-reads.pending.items c.loop-reads.told _ _ so_far.3 c.loop-reads.invariant.held all t knows c.deref.result.now whole c.deref.ensures.value)))

pub returns-in-Err-take_lines-clause-talks : goal.returns-in-Err-take_lines-clause-talks
returns-in-Err-take_lines-clause-talks g c all t e knows =
    let so_far = c.loop-reads.invariant.heard in
    let known = left-known _ _ t _ e (Consumes-trans _ _ _ _ _ so_far.1 c.in-Ok.ensures.bytes.0) in
    Talks-begun all _ c.args.streams.now.talker t Memory _ _ _ tt
    (more-begun _ _ c.args.streams.now.talker so_far.0 c.loop-reads.pending.items c.loop-reads.told _ _ so_far.3 c.loop-reads.invariant.held all t knows _ known.0 [] _ known.2 refl refl _ (0, omega arith, Appends-nothing _))

pub returns-in-Err-answer_text-clause-write : goal.returns-in-Err-answer_text-clause-write
returns-in-Err-answer_text-clause-write g c =
    let w = rw c.loop-reads.invariant.written at c.in-Err-answer_text.ensures.write in
    ((λ e. w.0.0 cc, λ n. let e = w.0.1 n in cc), λ no. w.1 (λ e. no cc))

pub returns-in-Err-answer_text-2-clause-write : goal.returns-in-Err-answer_text-2-clause-write
returns-in-Err-answer_text-2-clause-write g c =
    let w = rw c.loop-reads.invariant.written at c.in-Err-answer_text-2.ensures.write in
    ((λ e. w.0.0 cc, λ n. let e = w.0.1 n in cc), λ no. w.1 (λ e. no cc))

pub returns-in-Err-answer_text-2-clause-talks : goal.returns-in-Err-answer_text-2-clause-talks
returns-in-Err-answer_text-2-clause-talks g c all t e knows =
    let so_far = c.loop-reads.invariant.heard in
    let known = left-known _ _ t _ e (Consumes-trans _ _ _ _ _ so_far.1 c.in-Ok.ensures.bytes.0) in
    let parts = c.in-Ok-take_lines.ensures.parts ∙ ap (λ l. l ++ c.take_lines.new.pending.items) (sym c.deref-in-loop-reads.ensures.value) in
    let whole = ap is_whole c.deref-in-loop-reads.ensures.value ∙ c.in-Ok-take_lines.ensures.whole in
    Talks-begun all _ c.args.streams.now.talker t c.in-Err-answer_text-2.fault _ _ _ c.in-Err-answer_text-2.ensures.only
    (more-begun _ _ c.args.streams.now.talker so_far.0 c.loop-reads.pending.items c.loop-reads.told _ _ so_far.3 c.loop-reads.invariant.held all t knows _ known.0 c.deref-in-loop-reads.result.now _ known.2 parts whole _
    (c.in-Err-answer_text-2.ensures.begun all (more-known _ _ c.args.streams.now.talker so_far.0 c.loop-reads.pending.items c.loop-reads.told _ _ so_far.3 c.loop-reads.invariant.held all t knows _ known.0 c.deref-in-loop-reads.result.now _ known.2 parts whole)))

pub returns-then-heard-clause-talks : goal.returns-then-heard-clause-talks
returns-then-heard-clause-talks g c all t e knows =
    let so_far = c.loop-reads.invariant.heard in
    let known = left-known _ _ t _ e (Consumes-trans _ _ _ _ _ so_far.1 c.in-Ok.ensures.bytes.0) in
    let done = ended _ _ _ _ _ _ _ _ _ (Hears-then _ _ _ _ _ _ _ _ _ _ _ _ _ _ c.loop-reads.invariant.held so_far.3
    (Hears-lines _ _ _ _ _ _ _ _ _ _ _ c.in-Ok-take_lines.ensures.parts c.in-Ok-take_lines.ensures.whole c.in-Ok-take_lines.ensures.rest
    c.deref-in-loop-reads.ensures.value c.in-Ok-answer_text-2.ensures.answered)) all t known.0 known.2 knows c.if-heard.true in
    (Ok c.and-told.result, ap (λ s. Ok s) c.status-then-heard.ensures, (c.and-told.ensures ∙ done.told, done.written))

pub returns-then-heard-clause-saved : goal.returns-then-heard-clause-saved
returns-then-heard-clause-saved g c all t e knows =
    let so_far = c.loop-reads.invariant.heard in
    let known = left-known _ _ t _ e (Consumes-trans _ _ _ _ _ so_far.1 c.in-Ok.ensures.bytes.0) in
    let done = ended _ _ _ _ _ _ _ _ _ (Hears-then _ _ _ _ _ _ _ _ _ _ _ _ _ _ c.loop-reads.invariant.held so_far.3
    (Hears-lines _ _ _ _ _ _ _ _ _ _ _ c.in-Ok-take_lines.ensures.parts c.in-Ok-take_lines.ensures.whole c.in-Ok-take_lines.ensures.rest
    c.deref-in-loop-reads.ensures.value c.in-Ok-answer_text-2.ensures.answered)) all t known.0 known.2 knows c.if-heard.true in
    done.saved

pub returns-then-len-gt-MAX_WHOLE_LINE_BYTES-clause-talks : goal.returns-then-len-gt-MAX_WHOLE_LINE_BYTES-clause-talks
returns-then-len-gt-MAX_WHOLE_LINE_BYTES-clause-talks g c all t e knows =
    let so_far = c.loop-reads.invariant.heard in
    let known = left-known _ _ t _ e (Consumes-trans _ _ _ _ _ so_far.1 c.in-Ok.ensures.bytes.0) in
    unread-long _ _ _ _ _ _ _ _ _ (Hears-then _ _ _ _ _ _ _ _ _ _ _ _ _ _ c.loop-reads.invariant.held so_far.3
    (Hears-lines _ _ _ _ _ _ _ _ _ _ _ c.in-Ok-take_lines.ensures.parts c.in-Ok-take_lines.ensures.whole c.in-Ok-take_lines.ensures.rest
    c.deref-in-loop-reads.ensures.value c.in-Ok-answer_text-2.ensures.answered)) all t known.0 known.2 knows _ known.1

pub returns-then-len-gt-MAX_WHOLE_LINE_BYTES-clause-long : goal.returns-then-len-gt-MAX_WHOLE_LINE_BYTES-clause-long
returns-then-len-gt-MAX_WHOLE_LINE_BYTES-clause-long g c long t e =
    let so_far = c.loop-reads.invariant.heard in
    let known = left-known _ _ t _ e (Consumes-trans _ _ _ _ _ so_far.1 c.in-Ok.ensures.bytes.0) in
    long-text _ _ _ _ _ _ _ _ _ (Hears-then _ _ _ _ _ _ _ _ _ _ _ _ _ _ c.loop-reads.invariant.held so_far.3
    (Hears-lines _ _ _ _ _ _ _ _ _ _ _ c.in-Ok-take_lines.ensures.parts c.in-Ok-take_lines.ensures.whole c.in-Ok-take_lines.ensures.rest
    c.deref-in-loop-reads.ensures.value c.in-Ok-answer_text-2.ensures.answered)) (search rules) t known.0 known.2

pub returns-then-len-gt-MAX_WHOLE_LINE_BYTES-clause-long_line : goal.returns-then-len-gt-MAX_WHOLE_LINE_BYTES-clause-long_line
returns-then-len-gt-MAX_WHOLE_LINE_BYTES-clause-long_line g c long t e counted =
    let so_far = c.loop-reads.invariant.heard in
    let known = left-known _ _ t _ e (Consumes-trans _ _ _ _ _ so_far.1 c.in-Ok.ensures.bytes.0) in
    too-long _ _ _ _ _ _ _ _ _ (Hears-then _ _ _ _ _ _ _ _ _ _ _ _ _ _ c.loop-reads.invariant.held so_far.3
    (Hears-lines _ _ _ _ _ _ _ _ _ _ _ c.in-Ok-take_lines.ensures.parts c.in-Ok-take_lines.ensures.whole c.in-Ok-take_lines.ensures.rest
    c.deref-in-loop-reads.ensures.value c.in-Ok-answer_text-2.ensures.answered)) (search rules) t known.0 known.2

pub loop-reads-preserved : goal.loop-reads-preserved
loop-reads-preserved g c =
    let so_far = c.loop-reads.invariant.heard in
    record {
      heard = (
        _,
        Consumes-trans _ _ _ _ _ so_far.1 c.in-Ok.ensures.bytes.0,
        read-more _ _ _ _ so_far.2 (omega (arith, c.if-count-eq0.false)) c.in-Ok.ensures.bound,
        Hears-on _ _ _ _ _ _ c.and-told.result _ _ _ (Hears-then _ _ _ _ _ _ _ _ _ _ _ _ _ _ c.loop-reads.invariant.held so_far.3
            (Hears-lines _ _ _ _ _ _ _ _ _ _ _ c.in-Ok-take_lines.ensures.parts c.in-Ok-take_lines.ensures.whole c.in-Ok-take_lines.ensures.rest
            c.deref-in-loop-reads.ensures.value c.in-Ok-answer_text-2.ensures.answered)) c.if-heard.false c.and-told.ensures,
      );
      read = c.in-Ok.ensures.ok ∙ c.loop-reads.invariant.read;
      written = c.in-Ok-answer_text-2.ensures.write.1 (λ e. cc) ∙ c.loop-reads.invariant.written;
      unasked = c.in-Ok-answer_text-2.ensures.unasked ∙ c.loop-reads.invariant.unasked;
      held = c.in-Ok-answer_text-2.ensures.held ∙ c.loop-reads.invariant.held;
      untouched = λ e. c.in-Ok-answer_text-2.ensures.untouched e ∙ c.loop-reads.invariant.untouched e;
    }

pub returns-in-Err-clause-talks : goal.returns-in-Err-clause-talks
returns-in-Err-clause-talks g c all t e knows =
    let so_far = c.loop-reads.invariant.heard in
    let known = left-known _ _ t _ e so_far.1 in
    unread-failed _ _ c.args.streams.now.talker so_far.0 c.loop-reads.pending.items c.loop-reads.told _ _ _ so_far.3 all t
    known.0 known.2 knows _ (kept-known _ _ known.0 known.1 c.in-Err.ensures.bytes)

pub returns-clause-talks : goal.returns-clause-talks
returns-clause-talks g c all t e knows =
    let so_far = c.loop-reads.invariant.heard in
    let known = left-known _ _ t _ e so_far.1 in
    unread-long _ _ c.args.streams.now.talker so_far.0 c.loop-reads.pending.items c.loop-reads.told _ _ _ so_far.3 all t
    known.0 known.2 knows _ known.1

-- each read gave a byte
pub returns-clause-long : goal.returns-clause-long
returns-clause-long g c long t e =
    let so_far = c.loop-reads.invariant.heard in
    let known = left-known _ _ t _ e so_far.1 in
    omega (arith, so_far.2, c.loop-reads-test.false, ap length known.2, length-append so_far.0 known.0)

pub returns-clause-long_line : goal.returns-clause-long_line
returns-clause-long_line g c long t e counted =
    let so_far = c.loop-reads.invariant.heard in
    let known = left-known _ _ t _ e so_far.1 in
    absurd (omega (arith, so_far.2, c.loop-reads-test.false, counted, ap length known.2, length-append so_far.0 known.0))
