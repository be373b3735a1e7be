use Rattle.std.proofs.Common.{◌≡◌, ◌+◌, ◌++◌, length}
use Rattle.std.specs.Prelude.{option_copied}
use Rattle.std.specs.List.{slice_split}
use Rattle.mixal_text.specs.Prelude.{is_other, length_with_one, pieces_of}
use Rattle.mixal_asm.specs.Mentions.{uses_from}
use Rattle.mixal_asm.proofs.mentioned.add_uses.Given as goal

abbrev pub invariant-loop-rest : goal.invariant-loop-rest
invariant-loop-rest l = record {
  leads : l.list.items ++ uses_from l.before l.after l.number l.from (pieces_of is_other (option_copied l.rest))
      ≡ l.initial.list.items ++ uses_from l.before l.after l.number l.start (slice_split is_other l.fn.text);
  place : l.from + length_with_one (option_copied l.rest) ≡ l.start + (1 + length l.fn.text);
}

abbrev pub decreases-loop-rest : goal.decreases-loop-rest
decreases-loop-rest l = length_with_one (option_copied l.rest)
