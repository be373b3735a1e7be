use Rattle.std.proofs.Common.{◌≡◌, ◌≤◌, length}
use Rattle.mix_machine.specs.declared.part.Part.TheVariants.{Loc}
use Rattle.mix_machine.specs.Part.{mark_of}
use Rattle.mix_session.specs.Change.{world_at}
use Rattle.mix_session.proofs.PassagesLemmas.{ArePassed}
use Rattle.mix_session.proofs.TallyLemmas.{Stands}
use Rattle.mix_session.proofs.passages.passages_of.Given as goal

abbrev pub invariant-loop-number : goal.invariant-loop-number
invariant-loop-number l = record {
  of : l.past.of ≡ l.fn.journal;
  left : l.past.left ≡ l.number;
  within : l.number ≤ length l.fn.journal.changes;
  stands : Stands l.fn.journal l.number;
  location : l.location ≡ mark_of (world_at l.fn.journal l.number) Loc;
  passed : ArePassed l.fn.journal l.fn.place l.number l.list.items;
}

abbrev pub decreases-loop-number : goal.decreases-loop-number
decreases-loop-number l = l.number
