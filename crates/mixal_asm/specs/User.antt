-- The line that a fault at END is about (1.3.2): the one whose word waits for what is at fault.
use Rattle.std.specs.Prelude.{ℕ, ◌+◌, ◌==◌, Bool, false, List, position, option_and_then, Option, Some, None}
use Rattle.std.specs.List.{find}
use Rattle.mixal_text.specs.declared.misread.Misread.{Misread}
use Rattle.mixal_text.specs.Misread.{misread}
use Rattle.mixal_asm.specs.declared.fault.AsmKind.{AsmKind}
use Rattle.mixal_asm.specs.declared.fault.AsmKind.TheVariants.{Inserted}
use Rattle.mixal_asm.specs.declared.key.Key.{Key}
use Rattle.mixal_asm.specs.declared.words.Emitted.{Emitted}
use Rattle.mixal_asm.specs.declared.row.Shows.{Shows}
use Rattle.mixal_asm.specs.declared.row.Shows.TheVariants as shows
use Rattle.mixal_asm.specs.PassOne.{Before, SourceValue, Line, OfLiteral, OfName, RowValue, in_line, waits_for}

-- the number of the first word that waits for a name
abbrev pub first_wait : Key → List Emitted → Option ℕ
first_wait name emitted = position (λ word. waits_for name word.awaits) emitted

-- whether a row shows the word of this number
abbrev pub shows_word : ℕ → Shows → Bool
shows_word i (shows.Word n) = n == i
shows_word i _ = false

-- the number and the text of a line of the source
abbrev pub numbered : SourceValue → Option (ℕ × List ℕ)
numbered (Line number text) = Some (number, text)
numbered (OfLiteral text) = None
numbered (OfName symbol) = None

abbrev pub line_of_word : List RowValue → ℕ → Option (ℕ × List ℕ)
line_of_word rows i = option_and_then (λ row. numbered row.source) (find (λ row. shows_word i row.shown) rows)

-- the line whose word is the first that waits for a name
abbrev pub user_of : Before → Key → Option (ℕ × List ℕ)
user_of b name = option_and_then (line_of_word b.rows) (first_wait name b.emitted)

-- what is at fault in the ADDRESS of that line. Each word has its line, so that there is one
abbrev pub at_line : Option (ℕ × List ℕ) → Misread → AsmKind
at_line None m = Inserted 0 m
at_line (Some line) m = Inserted line.0 (in_line line.1 m)

abbrev pub at_use : Before → Key → Misread → AsmKind
at_use b name m = at_line (user_of b name) m

-- the text of a literal begins after its equals sign
abbrev pub after_equals : Misread → Misread
after_equals m = misread m.fault (m.at.from + 1) (m.at.to + 1)
