-- What an act leaves of the timeline.
use Rattle.std.specs.Prelude.{◌≡◌, ◌⊎◌, Option, None, Some, Result, Ok, Err}
use Rattle.std.specs.Option.{option_map}
use Rattle.mix_refused.specs.declared.refused.Refused.{Refused}
use Rattle.mix_refused.specs.declared.refused.Refused.TheVariants as refused
use Rattle.mix_session.specs.Prelude.{refusal_of, Effect, after, Begun, Timeline}
use Rattle.mix_session.specs.declared.answer.Answer.{Answer}
use Rattle.mix_session.specs.declared.fault.Refusal.{Refusal}
use Rattle.dap_asked.specs.declared.deed.Deed.{Deed}
use Rattle.dap_asked.specs.declared.fault.Fault.{Fault}
use Rattle.dap_asked.specs.Deed.{effect_of_deed}
use Rattle.dap_asked.specs.declared.fault.Fault.TheVariants as fault

-- what refuses an effect, if the session does
abbrev pub refusal_in : Effect → Option Fault
refusal_in effect = option_map fault.Session (refusal_of effect.answer)

-- an answer of the session, unless it is a refusal
abbrev pub refused_by : Answer → Option Refusal → Result Answer (Refused Fault)
refused_by answer None = Ok answer
refused_by answer (Some refusal) = Err (refused.Fault (fault.Session refusal))

abbrev pub unless_refused : Answer → Result Answer (Refused Fault)
unless_refused answer = refused_by answer (refusal_of answer)

-- What is left where this is to be done: it is done, unless the session refuses it; it is refused for that reason, and nothing is done; or for want of
-- memory a stage of it stands.
abbrev pub Does : {T : Type 0} → Effect → Timeline → Timeline → Result T (Refused Fault) → Type 0
Does effect t new (Ok done) = (new ≡ after effect) × (refusal_in effect ≡ None)
Does effect t new (Err (refused.Fault fault)) = (new ≡ t) × (refusal_in effect ≡ Some fault)
Does effect t new (Err refused.Memory) = Begun effect new

-- the same where it may be refused before anything is asked of the session
abbrev pub Leaves : {T : Type 0} → Result Deed Fault → Timeline → Timeline → Result T (Refused Fault) → Type 0
Leaves (Ok deed) t new result = Does (effect_of_deed deed t) t new result
Leaves (Err wrong) t new (Ok done) = ⊥
Leaves (Err wrong) t new (Err (refused.Fault fault)) = (new ≡ t) × (fault ≡ wrong)
Leaves (Err wrong) t new (Err refused.Memory) = new ≡ t

-- out of memory: nothing is done of it yet, or a stage of it stands
abbrev pub BreaksOff : Result Deed Fault → Timeline → Timeline → Type 0
BreaksOff asked t new = (new ≡ t) ⊎ Leaves {T = Fault} asked t new (Err refused.Memory)
