-- What a person reloads: the file of the source is read again, and in the machine that it loads all is done again that was done so far.
use Rattle.std.specs.Prelude.{ℕ, List, Result, Ok, Err}
use Rattle.mix_lines.specs.Lines.{lines}
use Rattle.mixal_asm.specs.Prelude.{assembly, ProgramValue}
use Rattle.mixal_asm.specs.declared.fault.AsmFault.{AsmFault}
use Rattle.mix_machine.specs.Prelude.{UnitsState, deck_of}
use Rattle.mix_machine.specs.declared.units.deck_fault.DeckFault.{DeckFault}
use Rattle.mix_session.specs.Session.{SessionState, opened}
use Rattle.mix_run.specs.Asked.{after_lines}
use Rattle.mix_run.specs.Bundle.{OriginValue}
use Rattle.mix_run.specs.PrintOutput.{parts_of}
use Rattle.mix_run.specs.Recall.{RecallState, nothing}
use Rattle.mix_run.specs.declared.reason.Reason.{Reason}
use Rattle.mix_run.specs.declared.talk.moment.Moment.{Moment}

abbrev pub moment_of : SessionState → RecallState → OriginValue → Moment
moment_of s r origin = record { session = s; recall = r; origin = origin }

-- a talk begins with the machine that its program loads, and nothing is recalled
abbrev pub begun : OriginValue → ProgramValue → UnitsState → Moment
begun origin program units = moment_of (opened program units) nothing origin

-- The program of a text takes the place of the one before it. Its machine begins with the units of the deck, and the lines that were done so far are
-- done again there, one after the other, each as far as it goes; all that is recalled stays.
abbrev pub reloaded_with : List ℕ → ProgramValue → Result UnitsState DeckFault → Moment → Moment
reloaded_with text program (Err fault) m = m
reloaded_with text program (Ok units) m =
    moment_of (after_lines (opened program units) (lines m.recall.done)) m.recall (record m.origin { source = text })

-- a text that is refused leaves all as it was
abbrev pub reloaded_as : List ℕ → Result ProgramValue AsmFault → Moment → Moment
reloaded_as text (Err fault) m = m
reloaded_as text (Ok program) m = reloaded_with text program (deck_of m.origin.deck) m

-- so does a file that can't be opened; of a bundle its source is read, and not its deck
abbrev pub reloaded : Result (List ℕ) Reason → Moment → Moment
reloaded (Err reason) m = m
reloaded (Ok text) m = let source = (parts_of text).source in reloaded_as source (assembly source) m
