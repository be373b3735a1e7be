-- What a request of the client asks of the machine: a request of the session, one step, cells that get words, or nothing, where a run is only begun;
-- or what refuses it.
use Rattle.std.specs.Prelude.{ℕ, ◌==◌, List, [], ◌∷◌, codes, Bool, true, false, Option, None, Some, option_and_then, Result, Ok, Err, ok_or, nat_lt, if◌then◌else◌}
use Rattle.std.specs.Option.{option_map, option_or}
use Rattle.std.specs.Str.{bytes_eq, trim}
use Rattle.mixal_text.specs.Prelude.{w_value_of, ◌>>=◌}
use Rattle.mixal_text.specs.declared.misread.Misread.{Misread}
use Rattle.mix_word.specs.Prelude.{register_named, operation_named, WordValue, plus}
use Rattle.mix_word.specs.declared.operation.Operation.{Operation}
use Rattle.mix_word.specs.declared.register.Reg.{Reg}
use Rattle.mix_machine.specs.declared.old.Change.TheVariants as change
use Rattle.mix_machine.specs.declared.part.Part.{Part}
use Rattle.mix_machine.specs.declared.part.Part.TheVariants as part
use Rattle.mix_session.specs.Client.{setting_at}
use Rattle.mix_session.specs.Command.{Effect, at_once, effect_of, effect_of_run}
use Rattle.mix_session.specs.Prelude.{no_stops, names_of, SessionState, request_in, Timeline, world_of}
use Rattle.mix_session.specs.declared.fault.Refusal.{Refusal}
use Rattle.mix_session.specs.declared.fault.Refusal.TheVariants.{BadArgument}
use Rattle.mix_session.specs.declared.answer.Answer.TheVariants as answers
use Rattle.mix_session.specs.declared.command.stops.Way.TheVariants as way
use Rattle.mix_session.specs.declared.request.Request.TheVariants as ask
use Rattle.rpc_message.specs.Request.{text_of, number_of}
use Rattle.rpc_message.specs.declared.request.Request.{Request}
use Rattle.dap_asked.specs.Scope.{scope_of, part_of, flag_named}
use Rattle.dap_asked.specs.Watch.{part_named}
use Rattle.dap_asked.specs.declared.deed.Deed.{Deed}
use Rattle.dap_asked.specs.declared.deed.Deed.TheVariants as deed
use Rattle.dap_asked.specs.declared.deed.Worth.{Worth}
use Rattle.dap_asked.specs.declared.deed.Worth.TheVariants as worth
use Rattle.dap_asked.specs.declared.fault.Fault.{Fault}
use Rattle.dap_asked.specs.declared.fault.Fault.TheVariants as fault
use Rattle.dap_asked.specs.declared.kind.Act.{Act}
use Rattle.dap_asked.specs.declared.kind.Act.TheVariants as act
use Rattle.dap_asked.specs.declared.scope.Scope.{Scope}
use Rattle.dap_asked.specs.declared.scope.Scope.TheVariants as scope

-- an answer of the session, or its refusal as that of the adapter
abbrev pub or_refusal : {A : Type 0} → Result A Refusal → Result A Fault
or_refusal (Ok x) = Ok x
or_refusal (Err refusal) = Err (fault.Session refusal)

-- `goto`: the location is set to the cell of the target
abbrev pub goto_cell : ℕ → Result Deed Fault
goto_cell cell = if nat_lt cell 4000 then Ok (deed.Do (ask.Change (change.SetLoc cell))) else Err fault.NoSuchThing

abbrev pub goto_deed : Option ℕ → Result Deed Fault
goto_deed None = Err fault.NoSuchThing
goto_deed (Some cell) = goto_cell cell

-- whether the variables of a scope can be set: what units hold can't
abbrev pub is_settable : Scope → Bool
is_settable scope.Registers = true
is_settable scope.Flags = true
is_settable (scope.Page n) = true
is_settable other = false

-- the scope of a reference
abbrev pub scope_asked : Option ℕ → Result Scope Fault
scope_asked None = Err fault.BadArgument
scope_asked (Some n) = ok_or (scope_of n) fault.BadArgument

-- the part that a variable is, where it can be set
abbrev pub settable_part : Scope → List ℕ → Result Part Fault
settable_part scope name = if is_settable scope then ok_or (part_of scope name) fault.NoSuchThing else Err fault.NoSuchThing

-- a part is set to what a text says, as the session reads it
abbrev pub change_deed : SessionState → Part → List ℕ → Result Deed Fault
change_deed s part value = do
  change ← or_refusal (setting_at s part value)
  Ok (deed.Do (ask.Change change))

-- `setVariable`
unfoldable pub set_deed : SessionState → Request → Result Deed Fault
set_deed s r = do
  scope ← scope_asked (number_of r (codes "variablesReference"))
  name ← ok_or (text_of r (codes "name")) fault.BadArgument
  value ← ok_or (text_of r (codes "value")) fault.BadArgument
  part ← settable_part scope name
  change_deed s part value

-- whether a text is this one
abbrev pub is_text : List ℕ → Option (List ℕ) → Bool
is_text text None = false
is_text text (Some other) = bytes_eq other text

-- whether an expression is from the console
abbrev pub is_console_of : Request → Bool
is_console_of r = is_text (codes "repl") (text_of r (codes "context"))

-- whether an act is a line of the console
abbrev pub is_line : Act → Request → Bool
is_line act.Evaluate r = is_console_of r
is_line other r = false

-- a line of the script, as the session reads it
abbrev pub line_deed : SessionState → List ℕ → Result Deed Fault
line_deed s line = do
  request ← or_refusal (request_in s line)
  Ok (deed.Do request)

-- a register as the book writes it, with an r before its name
abbrev pub register_written : List ℕ → Option Reg
register_written [] = None
register_written (byte ∷ rest) = if byte == 114 then register_named rest else None

-- a part whose content is one value; a unit holds more
abbrev pub unless_unit : Part → Option Part
unless_unit (part.Unit n) = None
unless_unit other = Some other

-- the part of the machine that a text names: a register, as `rA`; `over`, `cmp`, `loc`, `clock`; or what it names after `until`, as `A` and `cell E`
abbrev pub part_meant : SessionState → List ℕ → Option Part
part_meant s text = option_or (option_map part.Register (register_written text)) (option_or (flag_named text) (option_and_then unless_unit (part_named s text)))

-- what an expression is worth: the word of a W-value, or else what the part that it names holds
abbrev pub worth_by : Result WordValue Misread → Option Part → Option Worth
worth_by (Ok word) meant = Some (worth.Word word)
worth_by (Err fault) meant = option_map worth.Held meant

abbrev pub worth_in : SessionState → List ℕ → Option Worth
worth_in s text = worth_by (w_value_of (names_of s.program) (plus (world_of s.timeline).loc) text) (part_meant s text)

-- blanks around it are no part of it
abbrev pub worth_of : SessionState → List ℕ → Option Worth
worth_of s text = worth_in s (trim text)

-- the part that holds what an expression is worth; the word of a W-value is in none
abbrev pub holder_of : Option Worth → Option Part
holder_of None = None
holder_of (Some (worth.Word word)) = None
holder_of (Some (worth.Held part)) = Some part

-- `setExpression`
unfoldable pub set_expression_deed : SessionState → Request → Result Deed Fault
set_expression_deed s r = do
  text ← ok_or (text_of r (codes "expression")) fault.BadArgument
  value ← ok_or (text_of r (codes "value")) fault.BadArgument
  holder ← ok_or (holder_of (worth_of s text)) fault.NoSuchThing
  change_deed s holder value

-- the operation that the expression of a hover names, without the blanks around it
abbrev pub hovered : Request → Option Operation
hovered r =
    if is_text (codes "hover") (text_of r (codes "context")) then option_and_then (λ text. operation_named (trim text)) (text_of r (codes "expression"))
    else None

-- an expression is only looked at, if it is worth anything, or names an operation under a hover
abbrev pub looked_at : Option Worth → Option Operation → Result Deed Fault
looked_at (Some worth) operation = Ok deed.Nothing
looked_at None (Some operation) = Ok deed.Nothing
looked_at None None = Err (fault.Session BadArgument)

-- `evaluate`, but for a line of the console
unfoldable pub evaluate_deed : SessionState → Request → Result Deed Fault
evaluate_deed s r = do
  text ← ok_or (text_of r (codes "expression")) fault.BadArgument
  looked_at (worth_of s text) (hovered r)

-- what a request asks of the machine that moves or changes it, and is no line of the console
abbrev pub deed_of : Act → Request → SessionState → Result Deed Fault
deed_of act.Step r s = Ok deed.Step
deed_of act.StepBack r s = Ok (deed.Do (ask.Back 1))
deed_of act.Goto r s = goto_deed (number_of r (codes "targetId"))
deed_of act.SetVariable r s = set_deed s r
deed_of act.SetExpression r s = set_expression_deed s r
deed_of act.Evaluate r s = evaluate_deed s r
deed_of other r s = Ok deed.Nothing

-- what is done of it: a step is a run of one, that nothing stops
abbrev pub effect_of_deed : Deed → Timeline → Effect
effect_of_deed deed.Nothing t = at_once t answers.Nothing
effect_of_deed deed.Step t = effect_of_run way.Again no_stops t 1
effect_of_deed (deed.Do request) t = effect_of t request
