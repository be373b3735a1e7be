-- What was read of the file is all that is looked at; a file that can't be read leaves all as it was.
use Rattle.std.proofs.Common.{◌≡◌, ◌∙◌, Err, ap, refl, rules}
use Rattle.mix_refused.specs.declared.refused.Refused.TheVariants as refused
use Rattle.mix_run.specs.PrintOutput.{parts_of}
use Rattle.mix_run.proofs.ReloadLemmas.{on-ok, reloaded-read, reloaded-unread}
use Rattle.mix_run.proofs.talk.reload.reload.Goals as goal

pub returns-in-Ok-clause-reloaded : goal.returns-in-Ok-clause-reloaded
returns-in-Ok-clause-reloaded g c all held =
    let named : c.as_bytes.result.now ≡ c.args.moment.now.origin.name = search rules in
    reloaded-read (λ text. text.items) 41943041 (all c.args.moment.now.origin.name) c.in-Ok.text _ c.args.moment.now _
    c.reload_source.result refl (rw named at (c.in-Ok.ensures.given all held)) (c.parts_of.ensures.source ∙ ap (λ t. (parts_of t).source) c.deref.ensures.value)
    c.reload_source.ensures.reloaded

pub returns-in-Err-Fault-clause-reloaded : goal.returns-in-Err-Fault-clause-reloaded
returns-in-Err-Fault-clause-reloaded g c all held =
    let named : c.as_bytes.result.now ≡ c.args.moment.now.origin.name = search rules in
    let read = c.in-Err-Fault.is in
    let why = c.in-Err-Fault.field-0-is in
    let same : c.read.result ≡ Err (refused.Fault c.in-Err-Fault.unread) = cc in
    on-ok c.tell_unread.result (reloaded-unread (λ text. text.items) 41943041 (all c.args.moment.now.origin.name) c.read.result c.in-Err-Fault.unread
    c.args.moment.now same (rw named at (c.read.ensures.given all held)))
