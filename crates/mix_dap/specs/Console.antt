-- What a line of the console says: a line of a script, or the words that a person types at a prompt.
use Rattle.std.specs.Prelude.{ℕ, List, [], ◌||◌, Bool, true, false, not, is_ok, codes, Option, None, Some, Result, Ok, Err, if◌then◌else◌}
use Rattle.mix_lines.specs.Lines.{words}
use Rattle.mix_person.specs.Aside.{is_aside}
use Rattle.mix_person.specs.Person.{kind_of, person_line}
use Rattle.mix_person.specs.declared.person.Line.{Line}
use Rattle.mix_person.specs.declared.person.Line.TheVariants as line_kind
use Rattle.mix_session.specs.Prelude.{names_of, SessionState, request_in}
use Rattle.rpc_message.specs.declared.request.Request.{Request}
use Rattle.rpc_message.specs.Request.{text_of}
use Rattle.dap_asked.specs.declared.deed.Deed.{Deed}
use Rattle.dap_asked.specs.declared.fault.Fault.{Fault}
use Rattle.dap_asked.specs.declared.kind.Act.{Act}
use Rattle.dap_asked.specs.Deed.{deed_of, is_line, line_deed}
use Rattle.dap_asked.specs.declared.deed.Deed.TheVariants as deed
use Rattle.dap_asked.specs.declared.fault.Fault.TheVariants as fault

-- whether a person's line stands for a command; the others are about what a prompt keeps beside the changes, and a console keeps nothing there
abbrev pub is_command : Line → Bool
is_command line_kind.Command = true
is_command other = false

-- whether it is a line of a script as it is: what a script takes, a person's words do not change
abbrev pub is_script : SessionState → List ℕ → Bool
is_script s typed = is_ok (request_in s typed) || not (is_command (kind_of (words typed)))

-- the line of a script that it stands for, with nothing that is watched
abbrev pub line_meant : SessionState → List ℕ → List ℕ
line_meant s typed = if is_script s typed then typed else person_line (names_of s.program) [] [] typed

-- whether something is only said of it, as at a prompt
abbrev pub is_said : SessionState → List ℕ → Bool
is_said s typed = if is_script s typed then false else is_aside s (line_meant s typed)

-- a line of the console: nothing is done where something is only said
abbrev pub deed_unless : Bool → Result Deed Fault → Result Deed Fault
deed_unless false asked = asked
deed_unless true asked = Ok deed.Nothing

abbrev pub console_deed : SessionState → List ℕ → Result Deed Fault
console_deed s typed = deed_unless (is_said s typed) (line_deed s (line_meant s typed))

abbrev pub console_asked : SessionState → Option (List ℕ) → Result Deed Fault
console_asked s None = Err fault.BadArgument
console_asked s (Some typed) = console_deed s typed

-- what a request of the client asks that moves or changes the machine
abbrev pub deed_asked : Act → Request → SessionState → Result Deed Fault
deed_asked act r s = if is_line act r then console_asked s (text_of r (codes "expression")) else deed_of act r s
