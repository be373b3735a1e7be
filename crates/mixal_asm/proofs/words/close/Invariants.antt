use Rattle.std.proofs.Common.{◌≡◌, ◌<◌, true}
use Rattle.std.specs.Prelude.{IfSome}
use Rattle.mixal_asm.specs.Chain.{closed, links_of, waits_at, map_from, after_link}
use Rattle.mixal_asm.proofs.words.close.Given as goal

abbrev pub invariant-loop-next : goal.invariant-loop-next
invariant-loop-next l = record {
  items : l.entries.items ≡ map_from (closed l.name l.value) (after_link l.next) l.fn.entries.items;
  there : IfSome l.next (λ at. waits_at l.name (links_of l.fn.entries.items) at ≡ true);
  fits : IfSome l.next (λ _. l.value.magnitude < 4096);
}

abbrev pub decreases-loop-next : goal.decreases-loop-next
decreases-loop-next l = after_link l.next
