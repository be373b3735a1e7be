-- What a run leaves in the units, as a deck for the next run: what that can read of them, and their delays.
use Rattle.std.specs.Prelude.{ℕ, ◌==◌, ◌||◌, Bool, not, nat_lt, List, [], ◌∷◌, ◌++◌, codes, drop, length, flat_map, if◌then◌else◌}
use Rattle.std.specs.Fmt.{decimal}
use Rattle.std.specs.List.{range_with_len}
use Rattle.mix_word.specs.Prelude.{unit_count, WordValue}
use Rattle.mix_machine.specs.Prelude.{WorldState, unit_at, UnitState, kind_of}
use Rattle.mix_machine.specs.declared.units.kind.UnitKind.{UnitKind}
use Rattle.mix_machine.specs.declared.units.kind.UnitKind.TheVariants.{Tape, Disk, CardReader, CardPunch, Printer, Typewriter, PaperTape}
use Rattle.mix_session.specs.ShowUnit.{block_text}
use Rattle.mix_run.specs.Print.{printed_line}

-- the first block that is kept: what the card reader and the typewriter have read is used up, the others are read from their beginning again
abbrev pub first_kept : UnitKind → UnitState → ℕ
first_kept Tape u = 0
first_kept Disk u = 0
first_kept CardReader u = u.place
first_kept CardPunch u = 0
first_kept Printer u = 0
first_kept Typewriter u = u.place
first_kept PaperTape u = 0

-- a block as a deck has it: words, five in a line, or a line of characters without the blanks at its end
abbrev pub kept_block : UnitKind → List WordValue → List ℕ
kept_block Tape words = block_text words
kept_block Disk words = block_text words
kept_block CardReader words = printed_line words
kept_block CardPunch words = printed_line words
kept_block Printer words = printed_line words
kept_block Typewriter words = printed_line words
kept_block PaperTape words = printed_line words

-- the header of a unit, with its delay, if it has one
unfoldable pub header_text : ℕ → ℕ → List ℕ
header_text n delay = codes "%UNIT " ++ (decimal n ++ ((if delay == 0 then [] else codes " delay " ++ decimal delay) ++ 10 ∷ []))

-- whether there is something to say of a unit
abbrev pub is_kept : UnitKind → UnitState → Bool
is_kept kind u = not (u.delay == 0) || nat_lt (first_kept kind u) (length u.blocks)

-- the part of a unit: its header, and its blocks
abbrev pub kept_part : UnitKind → ℕ → UnitState → List ℕ
kept_part kind n u = header_text n u.delay ++ flat_map (kept_block kind) (drop (first_kept kind u) u.blocks)

unfoldable pub kept_unit : UnitKind → ℕ → UnitState → List ℕ
kept_unit kind n u = if is_kept kind u then kept_part kind n u else []

-- the deck of all units, unit 0 first
abbrev pub kept_at : WorldState → ℕ → List ℕ
kept_at w n = kept_unit (kind_of n) n (unit_at w n)

unfoldable pub kept_deck : WorldState → List ℕ
kept_deck w = flat_map (kept_at w) (range_with_len 0 unit_count)

-- the deck, if it is asked for
abbrev pub kept_if : Bool → WorldState → List ℕ
kept_if keep w = if keep then kept_deck w else []
