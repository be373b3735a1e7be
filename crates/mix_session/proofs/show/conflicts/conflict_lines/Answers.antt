-- Each change is the next of all, and both machines are led over it.
use Rattle.std.proofs.Common.{◌∙◌, Some, ap, sym, refl}
use Rattle.mix_session.specs.Conflicts.{conflict_line_at}
use Rattle.mix_session.proofs.ChangeLemmas.{texts-none}
use Rattle.mix_session.proofs.ConflictLemmas.{texts-more}
use Rattle.mix_session.proofs.show.conflicts.conflict_lines.Goals as goal

pub loop-number-init : goal.loop-number-init
loop-number-init c = record {
  before = ap Some (sym c.in_ok-before.ensures);
  after = ap Some (sym (c.in_ok-after.ensures ∙ c.in_ok-before.ensures));
  transfers = c.none-transfers.ensures;
  text = c.new-text.ensures.items ∙ texts-none (conflict_line_at c.args.journal.now) 1 1 refl;
}

pub loop-number-preserved : goal.loop-number-preserved
loop-number-preserved c = record {
  before = c.in_ok-redo.ensures.after;
  after = c.in_ok-conflict.ensures.after;
  transfers = c.in_ok-conflict.ensures.transfers;
  text = texts-more (conflict_line_at c.args.journal.now) c.loop-number.number _ _ c.loop-number.invariant.text c.in_ok-add_line.ensures;
}
