use Rattle.std.proofs.Common.{◌≡◌, ◌+◌, ◌++◌, map, drop, vec_len, vec_capacity}
use Rattle.mixal_asm.proofs.words.push_placed.Given as goal

abbrev pub invariant-loop-entry : goal.invariant-loop-entry
invariant-loop-entry l = record {
  items : l.list.items ++ map (λ entry. (entry.emitted.place, entry.word)) (drop l.entry-index l.entries)
      ≡ l.initial.list.items ++ map (λ entry. (entry.emitted.place, entry.word)) l.entries;
  len : vec_len l.list ≡ vec_len l.initial.list + l.entry-index;
  capacity : vec_capacity l.list ≡ vec_capacity l.initial.list;
}
