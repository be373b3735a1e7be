-- A session: the program, whose names commands may use, and the timeline of its machine.
use Rattle.std.specs.Prelude.{ℕ, List, Result}
use Rattle.mixal_asm.specs.Program.{ProgramValue}
use Rattle.mix_machine.specs.Prelude.{loaded, UnitsState}
use Rattle.mix_session.specs.Timeline.{Timeline, beginning}
use Rattle.mix_session.specs.Command.{Effect, command, request_at}
use Rattle.mix_session.specs.declared.fault.Refusal.{Refusal}
use Rattle.mix_session.specs.declared.request.Request.{Request}

pub record SessionState : Type 0 where
  pub program : ProgramValue
  pub timeline : Timeline

-- the machine that a program loads, with the units of a deck, no change done and none ahead
unfoldable pub opened : ProgramValue → UnitsState → SessionState
opened program units = record { program = program; timeline = beginning (loaded program.words program.start units) }

-- what a line of the script asks for
abbrev pub request_in : SessionState → List ℕ → Result Request Refusal
request_in s line = request_at s.program s.timeline line

-- what a line of the script does
abbrev pub effect_in : SessionState → List ℕ → Effect
effect_in s line = command s.program s.timeline line
