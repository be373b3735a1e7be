-- The event that tells that the program stopped, and why.
use Rattle.std.specs.Prelude.{ℕ, List, codes, true, Option, None, Some}
use Rattle.serde_json.specs.Data.{Data, Members, boolean, string, number, unsigned, object, no_members, put}
use Rattle.mix_machine.specs.declared.fault.MixFault.{MixFault}
use Rattle.mix_machine.specs.declared.transfers.Conflict.{Conflict}
use Rattle.mix_machine.specs.Fault.{fault_line}
use Rattle.mix_session.specs.declared.answer.Answer.{Answer}
use Rattle.mix_session.specs.declared.reply.End.{End}
use Rattle.mix_session.specs.Conflicts.{conflict_text}
use Rattle.mix_session.specs.declared.answer.Answer.TheVariants as answers
use Rattle.mix_session.specs.declared.reply.End.TheVariants as ends

-- why it stopped, in the protocol's word, and in a text where there is more to say
pub record Why : Type 0 where
  pub reason : List ℕ
  pub text : Option (List ℕ)

abbrev pub put_text : Option (List ℕ) → Members → Members
put_text None members = members
put_text (Some text) members = put (codes "text") (string text) (put (codes "description") (string text) members)

abbrev pub stopped_body : Why → Data
stopped_body why = object (put_text why.text (put (codes "allThreadsStopped") (boolean true)
    (put (codes "threadId") (number (unsigned 1)) (put (codes "reason") (string why.reason) no_members))))

-- without a text
abbrev pub only : List ℕ → Why
only reason = record { reason = reason; text = None }

-- why a run stops that ended so; at a breakpoint by this word
abbrev pub reason_of : List ℕ → End → List ℕ
reason_of at_break ends.Halt = codes "halt"
reason_of at_break (ends.Until index) = codes "data breakpoint"
reason_of at_break ends.Break = at_break
reason_of at_break ends.Arrived = codes "step"
reason_of at_break ends.Limit = codes "step"
reason_of at_break ends.Start = codes "entry"
reason_of at_break (ends.Fault fault) = codes "exception"

abbrev pub text_of : End → Option (List ℕ)
text_of ends.Halt = Some (codes "HLT")
text_of (ends.Fault fault) = Some (fault_line fault)
text_of other = None

abbrev pub why_of : List ℕ → End → Why
why_of at_break end = record { reason = reason_of at_break end; text = text_of end }

-- the same, where it has ended at a conflict or not
abbrev pub why_with : Option Conflict → List ℕ → End → Why
why_with None at_break end = why_of at_break end
why_with (Some conflict) at_break end = record { reason = codes "exception"; text = Some (conflict_text conflict) }

-- for want of memory
abbrev pub out_of_memory : Why
out_of_memory = record { reason = codes "exception"; text = Some (codes "T1 out of memory") }

-- after as many changes as a run may do
abbrev pub long_enough : Why
long_enough = record { reason = codes "pause"; text = Some (codes "paused after 1000000 changes") }

-- the fault at which a run stopped
abbrev pub fault_at : End → Option MixFault
fault_at (ends.Fault fault) = Some fault
fault_at other = None

-- what ends a step, by the answer of the session to it; what is no step has come to what was asked
abbrev pub end_of : Answer → End
end_of (answers.Ran count end) = end
end_of other = ends.Limit
