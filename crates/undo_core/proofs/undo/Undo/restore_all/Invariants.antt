use Rattle.std.proofs.Common.{◌≡◌, ◌+◌, length, IsSome}
use Rattle.undo_core.specs.Replay.{put_back}
use Rattle.undo_core.proofs.undo.Undo.restore_all.Given as goal

abbrev pub invariant-loop : goal.invariant-loop
invariant-loop g l = record {
  many : length l.left + l.counter ≡ l.end;
  fits : IsSome (put_back g.Self.Undo.put l.left l.self);
  back : put_back g.Self.Undo.put l.left l.self ≡ put_back g.Self.Undo.put l.values l.initial.self;
}
