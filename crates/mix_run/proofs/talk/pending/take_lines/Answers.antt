-- Some bytes more: the whole lines among them end the line that was begun.
use Rattle.std.proofs.Common.{refl, sym, ◌∙◌}
use Rattle.mix_run.proofs.RunLemmas.{nil-from_length}
use Rattle.mix_run.proofs.TalkLemmas.{joined-parts, joined-whole, more-clear, more-parts, some-from_length}
use Rattle.mix_run.proofs.talk.pending.take_lines.Goals as goal

pub returns-then-is_empty-clause-parts : goal.returns-then-is_empty-clause-parts
returns-then-is_empty-clause-parts c =
    let none = nil-from_length c.split_whole.result.0.now (sym c.if-is_empty.true ∙ c.is_empty.ensures) in
    rw (c.in_ok-keep.ensures, c.new.ensures.items) (more-parts c.args.pending.now.items c.args.part.now _ _ c.split_whole.ensures.parts none)

pub returns-then-is_empty-clause-whole : goal.returns-then-is_empty-clause-whole
returns-then-is_empty-clause-whole c = rw c.new.ensures.items refl

pub returns-then-is_empty-clause-rest : goal.returns-then-is_empty-clause-rest
returns-then-is_empty-clause-rest c =
    rw (c.in_ok-keep.ensures)
    (more-clear c.args.pending.now.items c.args.part.now _ _ c.split_whole.ensures.parts c.requires c.split_whole.ensures.rest)

pub returns-clause-parts : goal.returns-clause-parts
returns-clause-parts c =
    rw (c.in_ok-keep-2.ensures, c.in_ok-keep-3.ensures, c.replace-text.ensures.value, c.replace-text.ensures.after, c.new-2.ensures.items)
    (joined-parts c.args.pending.now.items c.args.part.now _ _ c.split_whole.ensures.parts)

pub returns-clause-whole : goal.returns-clause-whole
returns-clause-whole c =
    let some = some-from_length c.split_whole.result.0.now (sym c.if-is_empty.false ∙ c.is_empty.ensures) in
    rw (c.in_ok-keep-2.ensures, c.replace-text.ensures.value)
    (joined-whole c.args.pending.now.items c.args.part.now _ _ c.split_whole.ensures.parts some c.split_whole.ensures.whole)
