-- The reply of `show`, by what is to be shown.
use Rattle.std.specs.Prelude.{ℕ, List, length}
use Rattle.mixal_asm.specs.Program.{ProgramValue}
use Rattle.mix_session.specs.Timeline.{Timeline, world_of}
use Rattle.mix_session.specs.Show.{registers_text, cells_text, clock_text, breaks_text, changes_text, all_text}
use Rattle.mix_session.specs.ShowUnit.{unit_text}
use Rattle.mix_session.specs.ShowCode.{codes_text}
use Rattle.mix_session.specs.ShowValue.{value_line, values_text, cell_values_text}
use Rattle.mixal_asm.specs.Listing.{symbols_text}
use Rattle.mix_session.specs.Change.{last_lines, diff_text}
use Rattle.mix_session.specs.Counts.{counts_text}
use Rattle.mix_session.specs.Conflicts.{conflicts_text, met_text}
use Rattle.mix_session.specs.declared.request.topics.Topic.{Topic}
use Rattle.mix_session.specs.declared.request.topics.Topic.TheVariants.{Registers, Cells, Clock, Breaks, Changes, Unit, All, Code, Value, Values, CellValues, Symbols, Last, Writes, Diff, Counts, Conflicts}

-- of a program and of the machine that its timeline has come to
abbrev pub topic_text : Topic → ProgramValue → Timeline → List ℕ
topic_text Registers program t = registers_text (world_of t)
topic_text (Cells first last) program t = cells_text (world_of t) first last
topic_text Clock program t = clock_text (world_of t)
topic_text Breaks program t = breaks_text (world_of t)
topic_text Changes program t = changes_text (length t.changes)
topic_text (Unit n) program t = unit_text (world_of t) n
topic_text All program t = all_text (world_of t)
topic_text (Code first last) program t = codes_text program (world_of t) first last
topic_text (Value word) program t = value_line word
topic_text Values program t = values_text (world_of t)
topic_text (CellValues first last) program t = cell_values_text (world_of t) first last
topic_text Symbols program t = symbols_text program.names
topic_text (Last n) program t = last_lines t n
topic_text (Writes condition) program t = met_text condition t
topic_text (Diff n) program t = diff_text t n
topic_text Counts program t = counts_text program t
topic_text Conflicts program t = conflicts_text t
