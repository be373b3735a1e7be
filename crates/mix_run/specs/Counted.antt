-- A run in a session, whose table is written at its end.
use Rattle.std.specs.Prelude.{ℕ, Bool, true, false, List, [], ◌∷◌, Option, Some, None, Result, Ok, Err, is_some, min}
use Rattle.mix_formula.specs.Names.{NameValue}
use Rattle.mix_session.specs.Prelude.{Effect, after, effect_of_run, SessionState, no_stops, Timeline, world_of}
use Rattle.mix_session.specs.declared.answer.Answer.{Answer}
use Rattle.mix_session.specs.declared.fault.Refusal.{Refusal}
use Rattle.mix_session.specs.declared.fault.Refusal.TheVariants.{BadArgument}
use Rattle.mix_session.specs.declared.reply.End.{End}
use Rattle.mix_session.specs.declared.answer.Answer.TheVariants as answers
use Rattle.mix_session.specs.declared.command.stops.Way.TheVariants as way
use Rattle.mix_session.specs.declared.reply.End.TheVariants as ends
use Rattle.mix_views.specs.Analysis.{given_in}
use Rattle.mixal_text.specs.Part.{is_comma}
use Rattle.std.specs.List.{slice_split}
use Rattle.mix_run.specs.Print.{Run}
use Rattle.mix_run.specs.declared.print.options.AskedTable.{AskedTable}
use Rattle.mix_run.specs.declared.print.options.TableOf.{TableOf}
use Rattle.mix_run.specs.declared.print.options.TableOf.TheVariants as of
use Rattle.mix_run.specs.declared.print.steps.RunEnd.{RunEnd}
use Rattle.mix_run.specs.declared.print.steps.RunEnd.TheVariants.{Halted, Faulted, UsedUp}

-- ---- the run

-- the most steps that are counted
abbrev pub max_counted : ℕ
max_counted = 4294967295

-- so many steps in a session, up to a halt or a fault: no breakpoint is there, and nothing is watched
unfoldable pub counted_steps : ℕ → Timeline → Effect
counted_steps steps t = effect_of_run way.New no_stops t (min steps max_counted)

-- why a run ended: nothing else ends one without breakpoints
abbrev pub run_end : End → RunEnd
run_end ends.Halt = Halted
run_end (ends.Fault fault) = Faulted fault
run_end other = UsedUp

abbrev pub end_of : Answer → RunEnd
end_of (answers.Ran count end) = run_end end
end_of other = UsedUp

-- ---- the table

-- the values that a text such as N=10,A=1 gives to names, if it has nothing else between its commas; an empty text gives none
unfoldable pub given_by : List ℕ → Option (List NameValue)
given_by [] = Some []
given_by (byte ∷ rest) = given_in (slice_split is_comma (byte ∷ rest))

-- whether there is a table of the formulas: if the values of names can be read
abbrev pub with_given : Option (List NameValue) → Result Bool Refusal
with_given None = Err BadArgument
with_given (Some given) = Ok true

abbrev pub at_end_of : TableOf → List ℕ → Result Bool Refusal
at_end_of of.Counts subject = Ok true
at_end_of of.Formulas subject = with_given (given_by subject)
at_end_of of.Trace subject = Ok false
at_end_of of.Writes subject = Ok false

-- whether a table that is asked for is written at the end of its run; why there is none
abbrev pub end_table_asked : Option AskedTable → List ℕ → Result Bool Refusal
end_table_asked None subject = Ok false
end_table_asked (Some asked) subject = at_end_of asked.of subject

-- the same of a table in the code
abbrev pub is_table : {A : Type 0} → Result (Option A) Refusal → Result Bool Refusal
is_table (Ok table) = Ok (is_some table)
is_table (Err refusal) = Err refusal

-- a run whose steps are counted: its end, and the machine then; its table is any text, and conflicts are not looked for
unfoldable pub counted_run : List ℕ → ℕ → SessionState → Run
counted_run text steps s =
    let effect = counted_steps steps s.timeline in
    record {
      bytes = text;
      end = end_of effect.answer;
      world = world_of (after effect);
      met = [];
    }
