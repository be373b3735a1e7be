use Rattle.std.proofs.Common.{◌≡◌, ◌+◌, ◌≤◌, ◌++◌, ℕ, List, [], length}
use Rattle.mix_lines.specs.Lines.{lines}
use Rattle.mixal_asm.specs.Diagnose.{up_to_end}
use Rattle.mixal_asm.specs.Mentions.{mentions_after, next_locals}
use Rattle.mixal_asm.proofs.mentioned.add_mentions.Given as goal

-- for the lines before, what was found and what is left are all mentions
abbrev pub invariant-loop-line : goal.invariant-loop-line
invariant-loop-line l = (before : List (List ℕ)) × record {
  numbers : l.next ≡ next_locals before;
  number : l.number ≡ length before + 1;
  leads : l.list.items ++ mentions_after before (up_to_end (lines l.rest)) ≡ l.initial.list.items ++ mentions_after [] (up_to_end (lines l.fn.text));
  bound : l.number + length l.rest ≤ length l.fn.text + 1;
}

abbrev pub decreases-loop-line : goal.decreases-loop-line
decreases-loop-line l = length l.rest
