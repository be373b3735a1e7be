use Rattle.std.proofs.Common.{◌≡◌, ◌-◌, ◌<◌, ◌≤◌, List, ℕ, length, reverse}
use Rattle.undo_core.specs.Prelude.{newest_place, places_below, IsStored, unwound}
use Rattle.undo_core.proofs.journal.Journal.back_many.Given as goal

abbrev pub invariant-loop-many : goal.invariant-loop-many
invariant-loop-many g l = record {
  done : l.self-inside.done ≡ l.initial.self-inside.done;
  changes : l.self-inside.changes ≡ l.initial.self-inside.changes;
  within : l.many ≤ l.most;
  fewer : l.many ≤ l.self-inside.done;
  left : l.left ≡ length l.self-inside.kept.items - newest_place (reverse l.self-inside.places.items);
  some : l.many ≡ 0 → 0 < l.left;
  stored : (places : List ℕ) × (0 < l.left → reverse l.self-inside.places.items ≡ places_below (length l.self-inside.kept.items) (reverse places))
      × (0 < l.many → places ≡ l.self-inside.places.items)
      × IsStored g.S.Undo.gives g.S.Undo.keeps g.S.Undo.put g.S.Old.Pack.is_last l.self-inside.state l.self-inside.kept.items l.self-inside.changes.items
      places (l.self-inside.done - l.many);
  first : unwound g.S.Undo.put l.self-inside.kept.items l.self-inside.state ≡ unwound g.S.Undo.put l.initial.self-inside.kept.items l.initial.self-inside.state;
}

abbrev pub decreases-loop-many : goal.decreases-loop-many
decreases-loop-many g l = l.left
