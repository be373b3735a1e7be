-- What a request answers: whether it is accepted, and its text, which is read from the program and from the timeline that it led to.
use Rattle.std.specs.Prelude.{ℕ, ◌+◌, List, [], ◌++◌, Option, None, Some, codes, length}
use Rattle.mix_machine.specs.World.{WorldState}
use Rattle.mix_session.specs.Reply.{ran_text, moved_text, ok_text, refused_text, told_of_end}
use Rattle.mixal_asm.specs.Program.{ProgramValue}
use Rattle.mix_session.specs.Timeline.{Timeline, world_of}
use Rattle.mix_session.specs.Topic.{topic_text}
use Rattle.mix_session.specs.declared.fault.Refusal.{Refusal}
use Rattle.mix_session.specs.declared.reply.End.{End}
use Rattle.mix_session.specs.declared.answer.Answer.{Answer}
use Rattle.mix_session.specs.declared.answer.Answer.TheVariants.{Nothing, Ran, Traced, Back, BackUntil, Forth, ForthUntil, Done, Shows, Refused}
use Rattle.mix_session.specs.declared.reply.End.TheVariants.{Until}
use Rattle.mix_session.specs.Change.{change_line_at, last_lines}
use Rattle.mix_session.specs.declared.reply.Told.{Told}
use Rattle.mix_session.specs.declared.reply.Told.TheVariants as told

-- a refusal is refused, and so are steps that a fault ends
abbrev pub told_of : Answer → Told
told_of (Ran done end) = told_of_end end
told_of (Traced done end) = told_of_end end
told_of (Refused refusal) = told.Refused
told_of _ = told.Accepted

-- why the request was refused, if it was
abbrev pub refusal_of : Answer → Option Refusal
refusal_of (Refused refusal) = Some refusal
refusal_of _ = None

-- the line of `back` and of `forth`, by its first word
abbrev pub moved_to : List ℕ → ℕ → WorldState → List ℕ
moved_to way count w = moved_text way count w.loc w.clock

-- the line of `step` and `run`
abbrev pub ran_to : ℕ → End → WorldState → List ℕ
ran_to done end w = ran_text done w.loc w.clock end

-- how many changes are told before the line of steps: the one that met what was waited for
abbrev pub told_before : End → ℕ
told_before (Until index) = 1
told_before _ = 0

-- the text of an answer
unfoldable pub text_of : Answer → ProgramValue → Timeline → List ℕ
text_of Nothing program t = []
text_of (Ran done end) program t = last_lines t (told_before end) ++ ran_to done end (world_of t)
text_of (Traced done end) program t = last_lines t done ++ ran_to done end (world_of t)
text_of (Back count) program t = moved_to (codes "back") count (world_of t)
text_of (BackUntil count) program t = change_line_at t (length t.changes + 1) ++ moved_to (codes "back") count (world_of t)
text_of (Forth count) program t = moved_to (codes "forth") count (world_of t)
text_of (ForthUntil count) program t = last_lines t 1 ++ moved_to (codes "forth") count (world_of t)
text_of Done program t = ok_text
text_of (Shows topic) program t = topic_text topic program t
text_of (Refused refusal) program t = refused_text refusal
