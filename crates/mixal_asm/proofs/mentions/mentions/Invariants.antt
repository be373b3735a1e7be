use Rattle.std.proofs.Common.{◌≡◌, ◌+◌, ◌≤◌, ℕ, List, length}
use Rattle.std.specs.Option.{option_or}
use Rattle.std.specs.Map.{lookup}
use Rattle.std.specs.Str.{bytes_eq}
use Rattle.mix_lines.specs.Lines.{lines}
use Rattle.mixal_asm.specs.Diagnose.{mentions_from, up_to_end}
use Rattle.mixal_asm.proofs.mentions.mentions.Given as goal

-- a symbol that was found has its first line, and of the others what is left leads to it
abbrev pub invariant-loop-line : goal.invariant-loop-line
invariant-loop-line l = record {
  leads : (symbol : List ℕ) → lookup (bytes_eq symbol) (mentions_from l.role 1 (up_to_end (lines l.fn.text)))
      ≡ option_or (lookup (bytes_eq symbol) l.found.entries) (lookup (bytes_eq symbol) (mentions_from l.role l.number (up_to_end (lines l.rest))));
  bound : l.number + length l.rest ≤ length l.fn.text + 1;
}

abbrev pub decreases-loop-line : goal.decreases-loop-line
decreases-loop-line l = length l.rest
