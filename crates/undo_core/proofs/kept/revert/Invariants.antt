use Rattle.std.proofs.Common.{◌≡◌, ◌-◌, ◌≤◌, length, take, drop, IsSome}
use Rattle.undo_core.specs.Replay.{put_back}
use Rattle.undo_core.proofs.kept.revert.Given as goal

abbrev pub invariant-loop-left : goal.invariant-loop-left
invariant-loop-left g l = record {
  count : l.kept-inside.count ≡ l.initial.kept-inside.count;
  within : l.left ≤ l.count;
  cut : g.S.Old.Pack.said l.kept-inside.anchor l.kept-inside.units.items ≡ take (length l.fn.kept.items - (l.count - l.left)) l.fn.kept.items;
  fits : IsSome (put_back g.S.Undo.put (drop (length l.fn.kept.items - l.count) (g.S.Old.Pack.said l.kept-inside.anchor l.kept-inside.units.items)) l.state);
  back : put_back g.S.Undo.put (drop (length l.fn.kept.items - l.count) (g.S.Old.Pack.said l.kept-inside.anchor l.kept-inside.units.items)) l.state ≡
      put_back g.S.Undo.put (drop (length l.fn.kept.items - l.count) l.fn.kept.items) l.fn.state;
}

abbrev pub decreases-loop-left : goal.decreases-loop-left
decreases-loop-left g l = l.left
