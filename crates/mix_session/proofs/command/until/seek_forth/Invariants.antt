use Rattle.std.proofs.Common.{◌≡◌, ◌<◌, ℕ, false}
use Rattle.mix_session.specs.Prelude.{is_reached_forth, Knows, AreMarks, world_of, forth_by, Again}
use Rattle.mix_session.proofs.command.until.seek_forth.Given as goal

abbrev pub invariant-loop-done : goal.invariant-loop-done
invariant-loop-done l = record {
  forth : l.journal ≡ forth_by l.fn.journal l.done;
  none : (j : ℕ) → j < l.done → is_reached_forth l.watched l.fn.journal j ≡ false;
  marks : AreMarks l.watched l.marks (world_of l.journal);
  knows : Knows l.watched Again l.known l.journal;
}
