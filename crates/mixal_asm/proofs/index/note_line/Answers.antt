use Rattle.std.proofs.Common.{◌≡◌, false, Option, Some, None, refl, ap, sym, ◌∙◌}
use Rattle.std.specs.Map.{lookup}
use Rattle.std.specs.Prelude.{ℕ, List, is_some}
use Rattle.std.specs.Str.{bytes_eq}
use Rattle.indexmap.proofs.CallerLemmas.{insert_entry-new}
use Rattle.mixal_asm.proofs.IndexLemmas.{known}
use Rattle.mixal_asm.proofs.index.note_line.Goals as goal

none_of : (found : Option ℕ) → false ≡ is_some found → found ≡ None
none_of None none = refl
none_of (Some number) none = cc

pub returns-in_ok-insert : goal.returns-in_ok-insert
returns-in_ok-insert c other =
    ap (λ (lines : List (List ℕ × ℕ)). lookup (bytes_eq other) lines) (c.in_ok-insert.ensures.entries ∙ insert_entry-new bytes_eq c.args.lines.now c.args.symbol c.args.number (none_of (lookup (bytes_eq c.args.symbol) c.args.lines.now.entries) c.if-not-contains_key.ensures))

pub returns-else-not-contains_key : goal.returns-else-not-contains_key
returns-else-not-contains_key c other =
    known c.args.lines.now.entries c.args.symbol other c.args.number (sym c.if-not-contains_key.ensures)
