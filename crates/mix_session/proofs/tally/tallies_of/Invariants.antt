use Rattle.std.proofs.Common.{◌≡◌, ◌<◌, ◌≤◌, ◌^◌, length}
use Rattle.mix_machine.specs.declared.part.Part.TheVariants.{Loc, Clock}
use Rattle.mix_machine.specs.Part.{mark_of}
use Rattle.mix_session.specs.Prelude.{world_at, is_step_after}
use Rattle.mix_session.proofs.TallyLemmas.{Stands, IsTallied, AreTallied}
use Rattle.mix_session.proofs.tally.tallies_of.Given as goal

abbrev pub invariant-loop-number : goal.invariant-loop-number
invariant-loop-number l = record {
  of : l.past.of ≡ l.fn.journal;
  left : l.past.left ≡ l.number;
  few : length l.fn.journal.changes < 2 ^ 64;
  within : l.number ≤ length l.fn.journal.changes;
  stands : Stands l.fn.journal l.number;
  location : l.location ≡ mark_of (world_at l.fn.journal l.number) Loc;
  clock : l.clock ≡ mark_of (world_at l.fn.journal l.number) Clock;
  all : IsTallied l.fn.journal (is_step_after l.fn.journal) l.number l.all;
  cells : AreTallied l.fn.journal l.number l.cells.items;
}

abbrev pub decreases-loop-number : goal.decreases-loop-number
decreases-loop-number l = l.number
