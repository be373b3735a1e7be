-- The machine with a program in it, before its first step (The Art of Computer Programming, 1.3.1 and 1.3.2).
use Rattle.std.specs.Prelude.{ℕ, List, [], ◌∷◌, false, replicate, slice_set}
use Rattle.mix_word.specs.declared.word.Cmp.TheVariants.{Equal}
use Rattle.mix_word.specs.Word.{WordValue, zero_word}
use Rattle.mix_machine.specs.Registers.{blank_registers}
use Rattle.mix_machine.specs.World.{WorldState}
use Rattle.mix_machine.specs.units.Units.{UnitsState}

-- the cells with words put at their places in order, so that a later one wins
abbrev pub placed : List WordValue → List (ℕ × WordValue) → List WordValue
placed cells [] = cells
placed cells (w ∷ ws) = placed (slice_set cells w.0 w.1) ws

-- registers +0, toggle off, indicator EQUAL, clock 0, no breakpoint, these cells, this location, and these units
abbrev pub blank : List WordValue → ℕ → UnitsState → WorldState
blank cells start units =
    record {
      registers = blank_registers;
      over = false;
      cmp = Equal;
      cells = cells;
      loc = start;
      clock = 0;
      units = units;
      breaks = replicate 4000 false;
    }

-- the blank machine with the words of a program in cells that were +0, at the program's start, and with the units of a deck
unfoldable pub loaded : List (ℕ × WordValue) → ℕ → UnitsState → WorldState
loaded words start units = blank (placed (replicate 4000 zero_word) words) start units
