use Rattle.std.proofs.Common.{◌≡◌, ◌-◌, ◌<◌, ◌≤◌, length, take, drop, reverse, false, Some, IsSome}
use Rattle.undo_core.specs.Prelude.{newest_part, is_ended, put_back}
use Rattle.undo_core.proofs.kept.restore_part.Given as goal

abbrev pub invariant-loop-many : goal.invariant-loop-many
invariant-loop-many g l =
    let all = g.S.Old.Pack.said l.fn.anchor l.fn.units.items in
    let left = g.S.Old.Pack.said l.anchor l.units.items in
    record {
      within : l.many ≤ l.most;
      part : 0 < l.many → l.many ≤ newest_part g.S.Old.Pack.is_last l.most (reverse all);
      goes : 0 < l.many → l.many < l.most → is_ended g.S.Old.Pack.is_last (reverse left) ≡ false;
      cut : left ≡ take (length all - l.many) all;
      fits : IsSome (put_back g.S.Undo.put (drop (length all - l.most) left) l.state);
      back : put_back g.S.Undo.put (drop (length all - l.many) all) l.fn.state ≡ Some l.state;
    }

abbrev pub decreases-loop-many : goal.decreases-loop-many
decreases-loop-many g l = l.most - l.many
