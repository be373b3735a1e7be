-- The replies of the commands: lines of bytes, in a form of this project's own.
use Rattle.std.specs.Prelude.{ℕ, List, [], ◌∷◌, ◌++◌, codes}
use Rattle.std.specs.Fmt.{decimal}
use Rattle.mix_word.specs.Text.{location_text}
use Rattle.mix_machine.specs.Fault.{fault_line}
use Rattle.mix_session.specs.Fault.{refusal_text}
use Rattle.mix_session.specs.declared.fault.Refusal.{Refusal}
use Rattle.mix_session.specs.declared.reply.End.{End}
use Rattle.mix_session.specs.declared.reply.End.TheVariants.{Halt, Until, Break, Arrived, Limit, Start, Fault}
use Rattle.mix_session.specs.declared.reply.Told.{Told}
use Rattle.mix_session.specs.declared.reply.Told.TheVariants.{Accepted, Refused}

-- whether `step` or `run` is accepted: only a fault refuses
abbrev pub told_of_end : End → Told
told_of_end (Fault f) = Refused
told_of_end _ = Accepted

-- of two commands: accepted where both are
abbrev pub told_of_both : Told → Told → Told
told_of_both Accepted next = next
told_of_both Refused next = Refused

-- where the machine stands: the location and the clock
unfoldable pub position_text : ℕ → ℕ → List ℕ
position_text loc clock = location_text loc ++ codes " clock " ++ decimal clock

-- why no more steps were done, or why no more changes were taken back
abbrev pub end_text : End → List ℕ
end_text Halt = codes "halt"
end_text (Until index) = codes "until"
end_text Break = codes "break"
end_text Arrived = codes "arrived"
end_text Limit = codes "limit"
end_text Start = codes "start"
end_text (Fault f) = codes "fault " ++ fault_line f

-- the reply of `step` and `run`
unfoldable pub ran_text : ℕ → ℕ → ℕ → End → List ℕ
ran_text done loc clock end =
    codes "ran " ++ decimal done ++ codes " to " ++ position_text loc clock ++ codes ": " ++ end_text end ++ 10 ∷ []

-- the reply of `back` and of `forth`, by its first word
unfoldable pub moved_text : List ℕ → ℕ → ℕ → ℕ → List ℕ
moved_text way count loc clock = way ++ codes " " ++ decimal count ++ codes " to " ++ position_text loc clock ++ 10 ∷ []

-- the line of a refused command
unfoldable pub refused_text : Refusal → List ℕ
refused_text r = codes "? " ++ refusal_text r ++ 10 ∷ []

-- the reply of a change that is done
abbrev pub ok_text : List ℕ
ok_text = codes "ok" ++ 10 ∷ []
