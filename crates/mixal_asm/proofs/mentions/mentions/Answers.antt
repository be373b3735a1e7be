use Rattle.std.proofs.Common.{ap, ◌∙◌, ◌+◌, arith, List, ℕ}
use Rattle.std.specs.Map.{lookup}
use Rattle.std.specs.Option.{option_or}
use Rattle.std.specs.Str.{bytes_eq}
use Rattle.mix_lines.specs.Lines.{lines}
use Rattle.mixal_asm.specs.Diagnose.{mentions_from, symbol_in, up_to_end, with_number}
use Rattle.mixal_asm.proofs.DiagnoseLemmas.{one_more}
use Rattle.mixal_asm.proofs.mentions.mentions.Goals as goal

pub loop-line-preserved : goal.loop-line-preserved
loop-line-preserved c =
    record {
      leads = λ symbol.
          c.loop-line.invariant.leads symbol
          ∙ ap (λ (ls : List (List ℕ)). option_or (lookup (bytes_eq symbol) c.loop-line.found.entries) (lookup (bytes_eq symbol) (mentions_from c.args.role c.loop-line.number ls)))
          c.in-Some.ensures.line
          ∙ one_more c.loop-line.found.entries c.note_mention.new.found.entries (with_number c.loop-line.number (symbol_in c.args.role c.in-Some.line.now))
          (mentions_from c.args.role (c.loop-line.number + 1) (up_to_end (lines c.in-Some.after.now))) symbol (c.in_ok-note_mention.ensures symbol);
      bound = omega (arith, c.in-Some.ensures.shorter, c.loop-line.invariant.bound);
    }
