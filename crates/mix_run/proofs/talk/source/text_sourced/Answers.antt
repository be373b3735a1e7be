-- What was read of a file gives its lines; a line that names no file has none.
use Rattle.std.proofs.Common.{◌≡◌, ◌∙◌, Err, ap, refl, rules, sym}
use Rattle.mix_lines.specs.Lines.{lines, lines-nil}
use Rattle.mix_refused.specs.declared.refused.Refused.TheVariants as refused
use Rattle.mix_run.specs.Sources.{lines_under}
use Rattle.mix_run.proofs.SourceLemmas.{long-lines, short-lines, unread-lines}
use Rattle.mix_run.proofs.talk.source.text_sourced.Goals as goal

pub returns-in-None-clause-text : goal.returns-in-None-clause-text
returns-in-None-clause-text g c all held =
    ap lines c.new.ensures.items ∙ lines-nil ∙ ap (lines_under all) (rw c.in-None.is at c.name_in.ensures)

pub returns-in_ok-tell_too_long-in-Ok-clause-text : goal.returns-in_ok-tell_too_long-in-Ok-clause-text
returns-in_ok-tell_too_long-in-Ok-clause-text g c all held =
    ap lines c.new-then-len-gt-MAX_SCRIPT_BYTES.ensures.items ∙ lines-nil
    ∙ sym (long-lines (λ text. text.items) 1048577 (all c.in-Some.name.now) c.in-Ok.text (c.in-Ok.ensures.given all held) (search rules))
    ∙ ap (lines_under all) (rw c.in-Some.is at c.name_in.ensures)

pub returns-else-len-gt-MAX_SCRIPT_BYTES-clause-text : goal.returns-else-len-gt-MAX_SCRIPT_BYTES-clause-text
returns-else-len-gt-MAX_SCRIPT_BYTES-clause-text g c all held =
    sym (short-lines (λ text. text.items) 1048577 (all c.in-Some.name.now) c.in-Ok.text refl (c.in-Ok.ensures.given all held) (search rules))
    ∙ ap (lines_under all) (rw c.in-Some.is at c.name_in.ensures)

pub returns-in_ok-tell_unread-in-Err-Fault-clause-text : goal.returns-in_ok-tell_unread-in-Err-Fault-clause-text
returns-in_ok-tell_unread-in-Err-Fault-clause-text g c all held =
    let read = c.in-Err-Fault.is in
    let why = c.in-Err-Fault.field-0-is in
    let same : c.read.result ≡ Err (refused.Fault c.in-Err-Fault.unread) = cc in
    ap lines c.new-in-Err-Fault.ensures.items ∙ lines-nil
    ∙ sym (unread-lines (λ text. text.items) 1048577 (all c.in-Some.name.now) c.read.result c.in-Err-Fault.unread same (c.read.ensures.given all held))
    ∙ ap (lines_under all) (rw c.in-Some.is at c.name_in.ensures)
