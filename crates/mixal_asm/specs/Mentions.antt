-- All that the lines of a source mention (1.3.2): each name where LOC defines it, and where ADDRESS uses it.
use Rattle.std.specs.Prelude.{ℕ, ◌+◌, ◌-◌, ◌==◌, ◌&&◌, nat_lt, not, Bool, true, false, List, [], ◌∷◌, ◌++◌, length, take, drop, map, slice_index, Option, Some, None, Result, Ok, if◌then◌else◌}
use Rattle.std.specs.List.{count_by, slice_split}
use Rattle.mix_lines.specs.Lines.{lines, is_comment}
use Rattle.mixal_text.specs.Prelude.{is_other, op_of_line, local_of, part_span, symbol_of}
use Rattle.mixal_text.specs.declared.fault.TextFault.{TextFault}
use Rattle.mixal_text.specs.declared.label.Label.{Label}
use Rattle.mixal_text.specs.declared.op.Mnemonic.{Mnemonic}
use Rattle.mixal_text.specs.declared.label.Label.TheVariants as label
use Rattle.mixal_text.specs.declared.local.Direction.{Direction}
use Rattle.mixal_text.specs.declared.local.Direction.TheVariants.{Here, Backward, Forward}
use Rattle.mixal_text.specs.declared.local.Local.{Local as LocalSymbol}
use Rattle.mixal_text.specs.declared.misread.Span.{Span}
use Rattle.mixal_text.specs.declared.op.Mnemonic.TheVariants.{Alf}
use Rattle.mixal_text.specs.declared.parts.Part.TheVariants as part
use Rattle.mixal_asm.specs.declared.mentioned.Mention.{Mention}
use Rattle.mixal_asm.specs.declared.mentioned.Name.{Name}
use Rattle.mixal_asm.specs.declared.mentioned.Name.TheVariants.{Symbol, Local}
use Rattle.mixal_asm.specs.declared.mentions.Role.{Role}
use Rattle.mixal_asm.specs.declared.mentions.Role.TheVariants.{Definition, Use}
use Rattle.mixal_asm.specs.Assembly.{max_source_bytes}
use Rattle.mixal_asm.specs.Diagnose.{label_of, up_to_end}

-- ---- which dH is which: the lines whose LOC is dH are counted from 1

abbrev pub is_local : ℕ → Option Label → Bool
is_local d None = false
is_local d (Some (label.Name symbol)) = false
is_local d (Some (label.Local e)) = d == e

-- the number of the next dH after some lines
abbrev pub next_local : List (List ℕ) → ℕ → ℕ
next_local before d = count_by (λ text. is_local d (label_of text)) before + 1

-- the same of each digit
abbrev pub next_locals : List (List ℕ) → List ℕ
next_locals before = map (next_local before) (0 ∷ 1 ∷ 2 ∷ 3 ∷ 4 ∷ 5 ∷ 6 ∷ 7 ∷ 8 ∷ 9 ∷ [])

-- ---- the names of a line, by those numbers before it and after it

-- a LOC that is dH is the next one
abbrev pub name_defined : List ℕ → Option Label → Option Name
name_defined before None = None
name_defined before (Some (label.Name symbol)) = Some (Symbol symbol)
name_defined before (Some (label.Local d)) = Some (Local d (slice_index before d))

-- dB is the last dH before the line, and dF the next one after it; dH cannot be used
abbrev pub local_used : List ℕ → List ℕ → ℕ → Direction → Option Name
local_used before after d Here = None
local_used before after d Backward = Some (Local d (slice_index before d - 1))
local_used before after d Forward = Some (Local d (slice_index after d))

-- the name that a whole text is: a number is none
abbrev pub name_in : List ℕ → List ℕ → Option LocalSymbol → Option (List ℕ) → Option Name
name_in before after (Some l) symbol = local_used before after l.digit l.direction
name_in before after None (Some symbol) = Some (Symbol symbol)
name_in before after None None = None

abbrev pub name_used : List ℕ → List ℕ → List ℕ → Option Name
name_used before after text = name_in before after (local_of text) (symbol_of text)

-- ---- the mentions of a line

abbrev pub mention_if : Option Name → Role → ℕ → Span → List Mention
mention_if None role n at = []
mention_if (Some name) role n at = record { name = name; role = role; line = n; at = at } ∷ []

-- those of the runs of letters and digits of a text, each with the byte that follows it, from a place of the line on
abbrev pub uses_from : List ℕ → List ℕ → ℕ → ℕ → List (List ℕ) → List Mention
uses_from before after n from [] = []
uses_from before after n from (run ∷ more) =
    mention_if (name_used before after run) Use n (record { from = from; to = from + length run })
    ++ uses_from before after n (from + length run + 1) more

abbrev pub is_alf : Result Mnemonic TextFault → Bool
is_alf (Ok Alf) = true
is_alf _ = false

-- a comment has no ADDRESS, and that of ALF are characters
abbrev pub has_names : List ℕ → Bool
has_names text = not (is_comment text) && not (is_alf (op_of_line text))

abbrev pub uses_in : List ℕ → List ℕ → ℕ → List ℕ → Span → List Mention
uses_in before after n text at =
    uses_from before after n at.from (slice_split is_other (take (at.to - at.from) (drop at.from text)))

-- LOC is read whatever follows it, and ADDRESS whatever it means: so the names of a line that is refused are found as well
abbrev pub line_mentions : List ℕ → List ℕ → ℕ → List ℕ → List Mention
line_mentions before after n text =
    mention_if (name_defined before (label_of text)) Definition n (part_span text part.Label)
    ++ (if has_names text then uses_in before after n text (part_span text part.Address) else [])

-- ---- the mentions of a source, in the order of its text

-- those of some lines, by the lines before them
abbrev pub mentions_after : List (List ℕ) → List (List ℕ) → List Mention
mentions_after before [] = []
mentions_after before (text ∷ more) =
    line_mentions (next_locals before) (next_locals (before ++ text ∷ [])) (length before + 1) text
    ++ mentions_after (before ++ text ∷ []) more

-- those of the lines up to END. A source of too many bytes is not looked at
unfoldable pub mentions_of : List ℕ → List Mention
mentions_of source = if nat_lt max_source_bytes (length source) then [] else mentions_after [] (up_to_end (lines source))
