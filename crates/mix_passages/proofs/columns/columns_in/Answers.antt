-- There are too many columns.
use Rattle.std.proofs.Common.{arith}
use Rattle.mix_lines.specs.Lines.{words}
use Rattle.mix_passages.specs.Reading.{before_assert}
use Rattle.mix_passages.proofs.PassagesLemmas.{none-where-many}
use Rattle.mix_passages.proofs.columns.columns_in.Goals as goal

pub returns-then-len-gt-MOST : goal.returns-then-len-gt-MOST
returns-then-len-gt-MOST c =
    none-where-many c.args.session.now (words c.args.text.now) c.in-Some.word.now (before_assert c.loop-word.words) (before_assert c.next_item.new.words)
    c.loop-word.columns.items c.add_columns.new.columns.items c.in-Some.ensures.item (rw c.if-not-branch.false at c.in_ok-add_columns.ensures)
    c.loop-word.invariant (omega (arith, c.if-len-gt-MOST.true, c.len.ensures, c.add_columns.new.columns.ok))
