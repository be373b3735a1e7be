-- What `show` writes of the machine: lines of bytes, in a form of this project's own.
use Rattle.std.specs.Prelude.{ℕ, ◌+◌, ◌-◌, ◌==◌, ◌||◌, ◌&&◌, Bool, nat_lt, List, [], ◌∷◌, ◌++◌, codes, replicate, length, flat_map, if◌then◌else◌}
use Rattle.std.specs.Fmt.{decimal}
use Rattle.mix_word.specs.Prelude.{WordValue, is_plus, location_text, word_text, short_text, all_registers, name_of_register, unit_count}
use Rattle.mix_word.specs.declared.register.Reg.{Reg}
use Rattle.mix_word.specs.declared.register.Reg.TheVariants as reg
use Rattle.mix_machine.specs.Prelude.{WorldState, register_of, cell_of, has_break, unit_at, UnitState}
use Rattle.mix_session.specs.Each.{texts}
use Rattle.mix_session.specs.Keyword.{toggle_name, indicator_name}
use Rattle.mix_session.specs.Reply.{position_text}
use Rattle.mix_session.specs.ShowUnit.{unit_text}

-- the toggle, the indicator, the location and the clock
unfoldable pub flags_text : WorldState → List ℕ
flags_text w = codes "over " ++ toggle_name w.over ++ codes " cmp " ++ indicator_name w.cmp ++ codes " loc " ++ position_text w.loc w.clock ++ 10 ∷ []

-- one of two texts of a register: of rA and rX, which have five bytes, or of the others, which have two
abbrev pub by_width : {Text : Type 0} → Reg → Text → Text → Text
by_width reg.A long short = long
by_width reg.X long short = long
by_width _ long short = short

-- what a register holds, as bytes
abbrev pub value_text : Reg → WordValue → List ℕ
value_text r word = by_width r (word_text word) (short_text word)

-- a register: its name, left in two places, a blank, and what it holds
abbrev pub register_line : WorldState → Reg → List ℕ
register_line w r =
    let name = name_of_register r in
    name ++ replicate (2 - length name) 32 ++ codes " " ++ value_text r (register_of w r) ++ 10 ∷ []

-- the reply of `show regs`
unfoldable pub registers_text : WorldState → List ℕ
registers_text w = flat_map (register_line w) all_registers ++ flags_text w

-- a cell: its location, and its word
abbrev pub cell_line : WorldState → ℕ → List ℕ
cell_line w p = location_text p ++ codes " " ++ word_text (cell_of w p) ++ 10 ∷ []

-- the reply of `show cells`
abbrev pub cells_text : WorldState → ℕ → ℕ → List ℕ
cells_text w first last = texts (cell_line w) first (last + 1)

-- the reply of `show clock`
abbrev pub clock_text : WorldState → List ℕ
clock_text w = codes "clock " ++ decimal w.clock ++ 10 ∷ []

-- a breakpoint: a blank and its location; nothing of a cell that has none
abbrev pub break_text : WorldState → ℕ → List ℕ
break_text w p = if has_break w p then codes " " ++ location_text p else []

-- the reply of `show breaks`: the breakpoints of the cells 0 to 3999, in rising order
abbrev pub breaks_text : WorldState → List ℕ
breaks_text w = codes "breaks" ++ texts (break_text w) 0 4000 ++ 10 ∷ []

-- the reply of `show changes`: how many are done
abbrev pub changes_text : ℕ → List ℕ
changes_text changes = codes "changes " ++ decimal changes ++ 10 ∷ []

-- whether a word is +0, and not -0
abbrev pub is_plus_zero : WordValue → Bool
is_plus_zero word = is_plus word.sign && word.magnitude == 0

-- the line of a cell that holds another word than +0; nothing of one that holds +0
abbrev pub filled_cell_text : WorldState → ℕ → List ℕ
filled_cell_text w p = if is_plus_zero (cell_of w p) then [] else cell_line w p

-- whether a unit has something to show: its place, its blocks, its rows or its delay is not 0
abbrev pub is_used : UnitState → Bool
is_used u = nat_lt 0 u.place || nat_lt 0 (length u.blocks) || nat_lt 0 (length u.rows) || nat_lt 0 u.delay

-- whether a unit was used or holds something: it has something to show, or a transfer has set its time
abbrev pub was_used : UnitState → Bool
was_used u = is_used u || nat_lt 0 u.until

-- the lines of a unit that has something to show; nothing of another
abbrev pub used_unit_text : WorldState → ℕ → List ℕ
used_unit_text w n = if is_used (unit_at w n) then unit_text w n else []

-- the reply of `show all`: the registers, the cells 0 to 3999 that hold another word than +0, the breakpoints, and the units that
-- have something to show
unfoldable pub all_text : WorldState → List ℕ
all_text w = registers_text w ++ texts (filled_cell_text w) 0 4000 ++ breaks_text w ++ texts (used_unit_text w) 0 unit_count
