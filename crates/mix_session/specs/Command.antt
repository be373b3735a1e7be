-- What a request does to the timeline of a session, and what it answers. The machine is run anew, from its first state on the changes
-- done, wherever something of it is asked; no value from before a `back` is left to be shown.
use Rattle.std.specs.Prelude.{◌≡◌, ◌≤◌, ◌+◌, ◌-◌, ◌==◌, ℕ, zero, suc, List, length, position, Bool, true, false, Option, None, Some, Result, Ok, Err, is_some, unwrap_or, nat_le, nat_lt, if◌then◌else◌}
use Rattle.std.specs.List.{list_any}
use Rattle.std.specs.Option.{option_map, option_or}
use Rattle.mix_refused.specs.declared.refused.Memory.{Memory}
use Rattle.mix_word.specs.Word.{plus}
use Rattle.mixal_asm.specs.Program.{ProgramValue}
use Rattle.mix_machine.specs.Prelude.{WorldState, does, is_halt_next}
use Rattle.mix_machine.specs.declared.old.Change.{Change}
use Rattle.mix_machine.specs.declared.old.Change.TheVariants.{Step}
use Rattle.mix_machine.specs.declared.fault.MixFault.{MixFault}
use Rattle.mix_session.specs.Timeline.{Timeline, world_of, with_change, back_by, forth_by, moved}
use Rattle.mix_session.specs.Stops.{StopsState, no_stops, at_breaks, at_breaks_or, is_at_stop, is_awaited}
use Rattle.mix_session.specs.Change.{all_changes}
use Rattle.mix_session.specs.Condition.{is_reached, is_conflict}
use Rattle.mix_session.specs.Conflicts.{last_conflicts}
use Rattle.mix_session.specs.Request.{request_of}
use Rattle.mix_session.specs.Answer.{text_of}
use Rattle.mix_session.specs.declared.fault.Refusal.{Refusal}
use Rattle.mix_session.specs.declared.fault.Refusal.TheVariants.{TooFewChanges, RefusedByMachine, NoSuchChange}
use Rattle.mix_session.specs.declared.condition.Condition.{Condition}
use Rattle.mix_session.specs.declared.command.stops.Way.{Way}
use Rattle.mix_session.specs.declared.command.stops.Way.TheVariants as way
use Rattle.mix_session.specs.declared.request.topics.Topic.{Topic}
use Rattle.mix_session.specs.declared.request.topics.Topic.TheVariants as topic
use Rattle.mix_session.specs.declared.request.Request.{Request}
use Rattle.mix_session.specs.declared.request.Request.TheVariants as ask
use Rattle.mix_session.specs.declared.answer.Answer.{Answer}
use Rattle.mix_session.specs.declared.answer.Answer.TheVariants as answers
use Rattle.mix_session.specs.declared.reply.End.{End}
use Rattle.mix_session.specs.declared.reply.End.TheVariants.{Halt, Until, Break, Arrived, Limit, Start, Fault}

-- The effect of a request: the stages by which it is done, numbered from 0 to the last one, and its answer. Of a request that is done at
-- once, stage 0 is the last. Only where memory is refused may the timeline stand at another stage than the last.
pub record Effect : Type 0 where
  pub stage : ℕ → Timeline
  pub last : ℕ
  pub answer : Answer

-- the timeline after a command
abbrev pub after : Effect → Timeline
after effect = effect.stage effect.last

-- the reply of a command, read from its program and from the machine run anew over the changes done
abbrev pub reply_of : ProgramValue → Effect → List ℕ
reply_of program effect = text_of effect.answer program (after effect)

-- the least number that passes the test, of those below n, or n
abbrev pub least_below : ℕ → (ℕ → Bool) → ℕ
least_below zero passes = 0
least_below (suc n) passes = if passes 0 then 0 else suc (least_below n (λ k. passes (suc k)))

-- whether the change by which a run went from one state to another meets a condition: it leads from the one to the other, or is taken back; and it
-- conflicts with a transfer, or not
abbrev pub is_met_by : Bool → Way → WorldState → WorldState → Condition → Bool
is_met_by conflicts way.Back old now condition = is_reached condition conflicts now old now
is_met_by conflicts other old now condition = is_reached condition conflicts old now now

-- whether the change by which a run goes from one timeline to the next conflicts with a transfer: it is the last one done, here or there
abbrev pub move_conflicts : Way → Timeline → Timeline → Bool
move_conflicts way.Back old now = last_conflicts old
move_conflicts other old now = last_conflicts now

-- whether that change is a halt that is done
abbrev pub is_halt_done : Way → WorldState → Bool
is_halt_done way.Back old = false
is_halt_done other old = is_halt_next old

-- why a run ends at a state, whichever change led there
abbrev pub end_there : StopsState → WorldState → Option End
end_there stops w = if is_at_stop stops w then Some Break else if is_awaited stops.location w then Some Arrived else None

-- Why a run ends after a change by which it went from one state to another, if it does: the change was a halt; or it met what is watched, of which
-- the first is told; or it came to a cell where the run stops; or to the location that is waited for.
abbrev pub end_of_move : Bool → Way → StopsState → WorldState → WorldState → Option End
end_of_move conflicts way stops old now =
    if is_halt_done way old then Some Halt else
    option_or (option_map Until (position (is_met_by conflicts way old now) stops.watched)) (end_there stops now)

-- why a run ends after k changes, by the last of them
abbrev pub end_of_last : Way → StopsState → Timeline → ℕ → Option End
end_of_last way stops t zero = None
end_of_last way stops t (suc k) =
    let old = moved way t k in
    let now = moved way t (suc k) in
    end_of_move (move_conflicts way old now) way stops (world_of old) (world_of now)

-- the fault of a step, if it is one
abbrev pub fault_end : Result WorldState MixFault → Option End
fault_end (Ok world) = None
fault_end (Err fault) = Some (Fault fault)

-- why one change more cannot be made, if it cannot: none is left to be taken back; or the step is a fault
abbrev pub end_of_more : Way → Timeline → Option End
end_of_more way.Back t = if length t.changes == 0 then Some Start else None
end_of_more other t = fault_end (does (world_of t) Step)

-- what ends a run of n changes after k of them, if anything does: the last of them; or k is n; or one more cannot be made
unfoldable pub end_at : Way → StopsState → Timeline → ℕ → ℕ → Option End
end_at way stops t n k = option_or (end_of_last way stops t k) (if k == n then Some Limit else end_of_more way (moved way t k))

-- how many of n changes a run makes: the least number at which an end holds
unfoldable pub count_of_run : Way → StopsState → Timeline → ℕ → ℕ
count_of_run way stops t n = least_below n (λ k. is_some (end_at way stops t n k))

-- a run of at most n changes: a stage is a change
unfoldable pub effect_of_run : Way → StopsState → Timeline → ℕ → Effect
effect_of_run way stops t n =
    let k = count_of_run way stops t n in
    record { stage = moved way t; last = k; answer = answers.Ran k (unwrap_or (end_at way stops t n k) Limit) }

-- an answer whose steps are told one by one
abbrev pub traced : Answer → Answer
traced (answers.Ran k end) = answers.Traced k end
traced answer = answer

-- `trace N`, which does what `step N` does
abbrev pub effect_of_trace : Timeline → ℕ → Effect
effect_of_trace t n = let effect = effect_of_run way.New no_stops t n in record effect { answer = traced effect.answer }

-- what is done at once
abbrev pub at_once : Timeline → Answer → Effect
at_once t answer = record { stage = λ k. t; last = 0; answer = answer }

-- a refusal changes nothing
abbrev pub refusal_effect : Timeline → Refusal → Effect
refusal_effect t refusal = at_once t (answers.Refused refusal)

-- the last n changes are taken back
abbrev pub effect_of_back : Timeline → ℕ → Effect
effect_of_back t n = at_once (back_by t n) (answers.Back n)

-- `back N`: none is taken back where there are fewer
abbrev pub effect_of_back_within : Timeline → ℕ → Effect
effect_of_back_within t n = if nat_lt (length t.changes) n then refusal_effect t TooFewChanges else effect_of_back t n

-- `back break` takes back as many changes as a run backwards that breakpoints stop, or all
abbrev pub effect_of_back_break : Timeline → Effect
effect_of_back_break t = effect_of_back t (count_of_run way.Back at_breaks t (length t.changes))

-- whether taking back one change more than k meets one of the conditions
abbrev pub is_reached_back : List Condition → Timeline → ℕ → Bool
is_reached_back conditions t k =
    list_any (is_met_by (last_conflicts (back_by t k)) way.Back (world_of (back_by t k)) (world_of (back_by t (k + 1)))) conditions

-- how many changes `back until` takes back but one: the least number at which one more meets one of the conditions
unfoldable pub count_back : List Condition → Timeline → ℕ
count_back conditions t = least_below (length t.changes) (is_reached_back conditions t)

-- before something that is done at once, and after it
abbrev pub before_or_after : Timeline → Timeline → ℕ → Timeline
before_or_after old now zero = old
before_or_after old now (suc k) = now

-- what is taken back at once; where a conflict is waited for, only after memory was asked for
abbrev pub taken_back : Bool → Timeline → ℕ → Effect
taken_back false t n = at_once (back_by t n) (answers.BackUntil n)
taken_back true t n = record { stage = before_or_after t (back_by t n); last = 1; answer = answers.BackUntil n }

-- `back until`: nothing is taken back where no change meets one of the conditions
unfoldable pub effect_of_back_until : List Condition → Timeline → Effect
effect_of_back_until conditions t =
    let k = count_back conditions t in
    if nat_lt k (length t.changes) then taken_back (list_any is_conflict conditions) t (k + 1) else refusal_effect t NoSuchChange

-- whether doing again one change more than k meets one of the conditions
abbrev pub is_reached_forth : List Condition → Timeline → ℕ → Bool
is_reached_forth conditions t k =
    list_any (is_met_by (last_conflicts (forth_by t (k + 1))) way.Again (world_of (forth_by t k)) (world_of (forth_by t (k + 1)))) conditions

-- how many changes `forth until` does again but one
unfoldable pub count_forth : List Condition → Timeline → ℕ
count_forth conditions t = least_below (length t.ahead) (is_reached_forth conditions t)

-- on the way to the end of what stands ahead, and back where that is reached
abbrev pub sought : Timeline → ℕ → Timeline
sought t k = if nat_lt k (length t.ahead) then forth_by t k else t

-- `forth until`: where no change meets one of the conditions, all are done again and taken back
unfoldable pub effect_of_forth_until : List Condition → Timeline → Effect
effect_of_forth_until conditions t =
    let k = count_forth conditions t in
    if nat_lt k (length t.ahead) then record { stage = forth_by t; last = k + 1; answer = answers.ForthUntil (k + 1) }
    else record { stage = sought t; last = length t.ahead; answer = answers.Refused NoSuchChange }

-- the next n changes ahead are done again: a stage is one of them
abbrev pub effect_of_forth : Timeline → ℕ → Effect
effect_of_forth t n = record { stage = forth_by t; last = n; answer = answers.Forth n }

-- `forth N`: none is done where fewer stand ahead
abbrev pub effect_of_forth_within : Timeline → ℕ → Effect
effect_of_forth_within t n = if nat_lt (length t.ahead) n then refusal_effect t TooFewChanges else effect_of_forth t n

-- to the state after the first n changes of all, those done and those ahead
abbrev pub effect_of_goto : Timeline → ℕ → Effect
effect_of_goto t n =
    let done = length t.changes in if nat_lt n done then effect_of_back t (done - n) else effect_of_forth_within t (n - done)

-- before a change, and after it
abbrev pub change_stage : Timeline → Change → ℕ → Timeline
change_stage t change zero = t
change_stage t change (suc k) = with_change t change

-- a change that the machine makes is done; one that it refuses leaves the timeline
abbrev pub effect_of_result : Timeline → Change → Result WorldState MixFault → Effect
effect_of_result t change (Ok world) = record { stage = change_stage t change; last = 1; answer = answers.Done }
effect_of_result t change (Err fault) = refusal_effect t (RefusedByMachine fault)

-- a change of the machine, as `set`, `break` and `clear` ask for it
unfoldable pub effect_of_change : Timeline → Change → Effect
effect_of_change t change = effect_of_result t change (does (world_of t) change)

-- whether there is what is to be shown: only `show diff` asks for a state that no list of changes may come to
abbrev pub is_there : Timeline → Topic → Bool
is_there t (topic.Diff n) = nat_le n (length (all_changes t))
is_there t other = true

-- what is shown
abbrev pub effect_of_show : Timeline → Topic → Effect
effect_of_show t shown = if is_there t shown then at_once t (answers.Shows shown) else refusal_effect t TooFewChanges

-- what a request does; each request has an effect, whoever makes it
unfoldable pub effect_of : Timeline → Request → Effect
effect_of t ask.Nothing = at_once t answers.Nothing
effect_of t (ask.Step n) = effect_of_run way.New no_stops t n
effect_of t (ask.Trace n) = effect_of_trace t n
effect_of t (ask.Run n) = effect_of_run way.New at_breaks t n
effect_of t (ask.RunUntil n conditions) = effect_of_run way.New (at_breaks_or conditions) t n
effect_of t (ask.Back n) = effect_of_back_within t n
effect_of t ask.BackAll = effect_of_back t (length t.changes)
effect_of t ask.BackBreak = effect_of_back_break t
effect_of t (ask.BackUntil conditions) = effect_of_back_until conditions t
effect_of t (ask.Forth n) = effect_of_forth_within t n
effect_of t ask.ForthAll = effect_of_forth t (length t.ahead)
effect_of t (ask.ForthUntil conditions) = effect_of_forth_until conditions t
effect_of t (ask.Goto n) = effect_of_goto t n
effect_of t (ask.Change change) = effect_of_change t change
effect_of t (ask.Show topic) = effect_of_show t topic

-- what a line does that was read: its request, or its refusal
abbrev pub effect_of_line : Timeline → Result Request Refusal → Effect
effect_of_line t (Ok request) = effect_of t request
effect_of_line t (Err refusal) = refusal_effect t refusal

-- what a line of the script asks for, with the names and lines of the program; the asterisk stands for the location
abbrev pub request_at : ProgramValue → Timeline → List ℕ → Result Request Refusal
request_at program t line = request_of program (plus (world_of t).loc) line

-- what a line of the script does
abbrev pub command : ProgramValue → Timeline → List ℕ → Effect
command program t line = effect_of_line t (request_at program t line)

-- What stands where memory is refused: one of the stages of the command. So of `step` and `run` some of the steps stand, of `forth` some
-- of the changes are done again, and any other command is done or not.
abbrev pub Begun : Effect → Timeline → Type 0
Begun effect t = (k : ℕ) × (k ≤ effect.last) × (t ≡ effect.stage k)

-- what a request does to the journal and answers: its first state stays, the timeline after it and the answer are those of the effect; out of
-- memory, it is begun
abbrev pub HasEffect : Effect → Timeline → Timeline → Result Answer Memory → Type 0
HasEffect effect old new (Ok answer) = (new.first ≡ old.first) × (new ≡ after effect) × (answer ≡ effect.answer)
HasEffect effect old new (Err memory) = (new.first ≡ old.first) × Begun effect new
